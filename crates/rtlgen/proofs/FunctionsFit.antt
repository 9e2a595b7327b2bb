-- The RTL function of a Cminor function in range is in range.
use Rattle.std.proofs.Common.{◌≡◌, ◌≢◌, ℕ, zero, suc, ◌+◌, ◌<◌, ◌≤◌, Bool, true, false, List, [], length, Some, None, refl, arith}
use Rattle.std.specs.List.{AllByRecursion}
use Rattle.std.proofs.lemmas.List.{length-append}
use Rattle.machine.specs.Fits.{AreDistinct}
use Rattle.rtl_acts.specs.Fits.{RegisterFits}
use Rattle.rtl_language.specs.declared.instruction.Instruction.TheVariants.{Return}
use Rattle.rtl_language.specs.Function as R
use Rattle.cminor_syntax.specs.Trees.{StatementTree, StatementsTree, FunctionTree}
use Rattle.cminor_syntax.specs.Trees as T
use Rattle.cminor_syntax.specs.Fits.{IsFunction}
use Rattle.rtlgen_definition.specs.Pieces.{Piece, both}
use Rattle.rtlgen_definition.specs.Gen.{statement, statements, ends_with_value, last_with_value, ending, numbers_from, gen_function}
use Rattle.rtlgen_definition.proofs.Functions.{length-numbers}
use Rattle.rtlgen.proofs.Needs.{registers_few}
use Rattle.rtlgen.proofs.Nodes.{PieceFits, nothing_fits, one_fits, both_fits, statement_fits}

-- ---- there is a node

-- what both parts make has at least the nodes of each
front_some : (first second : Piece) (following count : ℕ) → ((n k : ℕ) → 0 < length (first n k).nodes) → 0 < length (both first second following count).nodes
front_some first second following count some =
    let last = second following count in
    let front = first last.entry (count + length last.nodes) in
    let h = some last.entry (count + length last.nodes) in
    rw (length-append last.nodes front.nodes) (omega (arith, h))

last_some : (first second : Piece) (following count : ℕ) → 0 < length (second following count).nodes → 0 < length (both first second following count).nodes
last_some first second following count some =
    let last = second following count in
    let front = first last.entry (count + length last.nodes) in
    rw (length-append last.nodes front.nodes) (omega (arith, some))

mutual
  value_some : (t : StatementTree) (r : ℕ) (exits : List ℕ) → ends_with_value t ≡ true → (following count : ℕ) → 0 < length (statement t r exits following count).nodes
  value_some T.Skip r exits e following count = absurd cc
  value_some (T.Assign v x) r exits e following count = absurd cc
  value_some (T.Store g i x) r exits e following count = absurd cc
  value_some (T.Call f target arguments) r exits e following count = absurd cc
  value_some (T.Put target x) r exits e following count = absurd cc
  value_some (T.Sequence ss) r exits e following count = values_some ss r exits e following count
  value_some (T.If x a b) r exits e following count = absurd cc
  value_some (T.Loop a) r exits e following count = absurd cc
  value_some (T.Block a) r exits e following count = absurd cc
  value_some (T.Exit n) r exits e following count = absurd cc
  value_some (T.Return None) r exits e following count = absurd cc
  value_some (T.Return (Some x)) r exits e following count = omega arith

  values_some : (ss : StatementsTree) (r : ℕ) (exits : List ℕ) → last_with_value ss ≡ true → (following count : ℕ) → 0 < length (statements ss r exits following count).nodes
  values_some T.Done r exits e following count = absurd cc
  values_some (T.First a T.Done) r exits e following count = front_some (statement a r exits) (statements T.Done r exits) following count (value_some a r exits e)
  values_some (T.First a (T.First b rest)) r exits e following count =
      last_some (statement a r exits) (statements (T.First b rest) r exits) following count (values_some (T.First b rest) r exits e following count)

body_some : (t : StatementTree) (r : ℕ) (z : Bool) → ends_with_value t ≡ z → 0 < length (both (statement t r []) (ending z) 0 0).nodes
body_some t r true e = front_some (statement t r []) (ending true) 0 0 (value_some t r [] e)
body_some t r false e = last_some (statement t r []) (ending false) 0 0 (omega arith)

-- ---- parameters

numbers_below : (registers first n : ℕ) → first + n ≤ registers → AllByRecursion (RegisterFits registers) (numbers_from first n)
numbers_below registers first zero le = tt
numbers_below registers first (suc n) le = (omega (arith, le), numbers_below registers (suc first) n (omega (arith, le)))

numbers_above : (k first n : ℕ) → k < first → AllByRecursion (λ y. k ≢ y) (numbers_from first n)
numbers_above k first zero lt = tt
numbers_above k first (suc n) lt = ((λ e. omega (arith, lt, e)), numbers_above k (suc first) n (omega (arith, lt)))

numbers_distinct : (first n : ℕ) → AreDistinct (numbers_from first n)
numbers_distinct first zero = tt
numbers_distinct first (suc n) = (numbers_above first (suc first) n (omega arith), numbers_distinct (suc first) n)

-- ---- functions

ending_fits : (registers total : ℕ) (z : Bool) → PieceFits registers total (ending z)
ending_fits registers total true = nothing_fits registers total
ending_fits registers total false = one_fits registers total (λ n. Return None) (λ n low. tt)

pub generated_fits : (f : FunctionTree) → IsFunction f → length (gen_function f).nodes ≤ R.node_limit → R.IsFunction (gen_function f)
generated_fits f fits few =
    let registers = (gen_function f).registers in
    let total = length (gen_function f).nodes in
    let z = ends_with_value f.body in
    let some = body_some f.body f.variables z refl in
    let body = statement f.body f.variables [] in
    let made = both_fits registers total body (ending z) (statement_fits registers total f.variables (omega arith) f.body [] fits.body (omega arith) (λ n. some)) (ending_fits registers total z) 0 0 some (omega arith) in
    let small = registers_few f fits in
    record {
      parameters = record {
        few = rw (length-numbers 0 f.parameters) fits.parameters;
        each = numbers_below registers 0 f.parameters (omega (arith, fits.within));
        distinct = numbers_distinct 0 f.parameters;
      };
      registers = omega (arith, small);
      entry = made.entry;
      nodes = few;
      each = made.nodes;
    }
