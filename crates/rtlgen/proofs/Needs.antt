-- A function needs few temporaries: as many as its trees are high, and one for each argument of a call.
use Rattle.std.proofs.Common.{ℕ, ◌+◌, ◌≤◌, List, [], ◌∷◌, length, Some, None, arith}
use Rattle.cminor_syntax.specs.Trees.{ExpressionTree, StatementTree, StatementsTree, FunctionTree}
use Rattle.cminor_syntax.specs.Trees as T
use Rattle.cminor_syntax.specs.Fits.{StatementFits, StatementsFit, IsFunction, expression_height, arguments_height, statement_height, statements_height}
use Rattle.rtlgen_definition.specs.Gen.{needs, operands_need, statement_needs, statements_need, gen_function}

needs_few : (e : ExpressionTree) → needs e ≤ expression_height e
needs_few (T.Number w) = omega arith
needs_few (T.Variable v) = omega arith
needs_few (T.Load g i) = let h = needs_few i in omega (arith, h)
needs_few (T.Unary o e) = let h = needs_few e in omega (arith, h)
needs_few (T.Binary o a b) =
    let h = needs_few a in
    let k = needs_few b in
    omega (arith, h, k)
needs_few (T.Choice c a b) =
    let h = needs_few c in
    let k = needs_few a in
    let l = needs_few b in
    omega (arith, h, k, l)

operands_need_few : (es : List ExpressionTree) → operands_need es ≤ length es + arguments_height es
operands_need_few [] = omega arith
operands_need_few (e ∷ es) =
    let h = needs_few e in
    let k = operands_need_few es in
    omega (arith, h, k)

mutual
  pub statement_needs_few : (variables : ℕ) (t : StatementTree) → StatementFits variables t → statement_needs t ≤ 255 + statement_height t
  statement_needs_few variables T.Skip fits = omega arith
  statement_needs_few variables (T.Assign v e) fits = let h = needs_few e in omega (arith, h)
  statement_needs_few variables (T.Store g i e) fits =
      let h = needs_few i in
      let k = needs_few e in
      omega (arith, h, k)
  statement_needs_few variables (T.Call f target arguments) fits =
      let h = operands_need_few arguments in
      let few = fits.1.1.0 in
      omega (arith, h, few)
  statement_needs_few variables (T.Put target e) fits = let h = needs_few e in omega (arith, h)
  statement_needs_few variables (T.Sequence ss) fits = let h = statements_need_few variables ss fits.1 in omega (arith, h)
  statement_needs_few variables (T.If e s t) fits =
      let h = needs_few e in
      let k = statement_needs_few variables s fits.1.0 in
      let l = statement_needs_few variables t fits.1.1 in
      omega (arith, h, k, l)
  statement_needs_few variables (T.Loop s) fits = let h = statement_needs_few variables s fits in omega (arith, h)
  statement_needs_few variables (T.Block s) fits = let h = statement_needs_few variables s fits in omega (arith, h)
  statement_needs_few variables (T.Exit n) fits = omega arith
  statement_needs_few variables (T.Return None) fits = omega arith
  statement_needs_few variables (T.Return (Some e)) fits = let h = needs_few e in omega (arith, h)

  statements_need_few : (variables : ℕ) (ss : StatementsTree) → StatementsFit variables ss → statements_need ss ≤ 255 + statements_height ss
  statements_need_few variables T.Done fits = omega arith
  statements_need_few variables (T.First s rest) fits =
      let h = statement_needs_few variables s fits.0 in
      let k = statements_need_few variables rest fits.1 in
      omega (arith, h, k)

pub registers_few : (f : FunctionTree) → IsFunction f → (gen_function f).registers ≤ 1767
registers_few f fits =
    let h = statement_needs_few f.variables f.body fits.body in
    omega (arith, h, fits.low, fits.variables)

pub generated_is_small : (f : FunctionTree) → IsFunction f → (gen_function f).registers ≤ 2048
generated_is_small f fits = let h = registers_few f fits in omega (arith, h)
