-- The translation of Cminor to RTL (Leroy 2009, sections 3.1 and 3.2). A variable is the register of its number. The
-- registers from the number of variables on are temporaries: each operand of an expression or a statement has one, and an
-- operand's own operands begin with that same one, which it is given last of all.
use Rattle.std.specs.Prelude.{ℕ, zero, suc, ◌+◌, ◌<◌, List, [], ◌∷◌, length, map, max, Some, None, Bool, true, false, slice_index_or}
use Rattle.lang_base.specs.declared.program.Named.{Named}
use Rattle.lang_base.specs.declared.program.Program.{Program}
use Rattle.rtl_acts.specs.declared.arguments.Arguments.TheVariants.{One, Two}
use Rattle.rtl_acts.specs.declared.act.Act.TheVariants.{Constant, Move, Operate, Load, Store, Put}
use Rattle.rtl_language.specs.declared.instruction.Instruction.TheVariants.{Do, Call, Return}
use Rattle.rtl_language.specs.Function.{FunctionData, node_limit}
use Rattle.cminor_syntax.specs.Trees.{ExpressionTree, StatementTree, StatementsTree, FunctionTree}
use Rattle.cminor_syntax.specs.Trees as C
use Rattle.rtlgen_definition.specs.Pieces.{Made, Piece, nothing, one, both, either, again}

-- ---- expressions

-- the register where an operand's value stands: a variable's own, else a temporary
abbrev pub operand_register : ExpressionTree → ℕ → ℕ
operand_register (C.Number w) r = r
operand_register (C.Variable v) r = v
operand_register (C.Load g i) r = r
operand_register (C.Unary o e) r = r
operand_register (C.Binary o a b) r = r
operand_register (C.Choice c a b) r = r

-- what gives an operand's temporary its value: nothing where the operand is a variable
abbrev pub unless_variable : ExpressionTree → Piece → Piece
unless_variable (C.Number w) piece = piece
unless_variable (C.Variable v) piece = nothing
unless_variable (C.Load g i) piece = piece
unless_variable (C.Unary o e) piece = piece
unless_variable (C.Binary o a b) piece = piece
unless_variable (C.Choice c a b) piece = piece

-- An expression's value goes to the target, and no other register below the first temporary changes. Of a choice only one
-- part is evaluated.
abbrev pub expression : ExpressionTree → (target temporary : ℕ) → Piece
expression (C.Number w) target r = one (Do (Constant target w))
expression (C.Variable v) target r = one (Do (Move target v))
expression (C.Load g i) target r = both (unless_variable i (expression i r r)) (one (Do (Load target g (operand_register i r))))
expression (C.Unary o e) target r = both (unless_variable e (expression e r r)) (one (Do (Operate o target (One (operand_register e r)))))
expression (C.Binary o a b) target r =
    both (unless_variable a (expression a r r))
    (both (unless_variable b (expression b (suc r) (suc r))) (one (Do (Operate o target (Two (operand_register a r) (operand_register b (suc r)))))))
expression (C.Choice c a b) target r =
    both (unless_variable c (expression c r r)) (either (operand_register c r) (expression a target r) (expression b target r))

-- an operand's value goes to its register
abbrev pub operand : ExpressionTree → ℕ → Piece
operand e r = unless_variable e (expression e r r)

-- the values of arguments go to their registers, one temporary behind the other
abbrev pub operands : List ExpressionTree → ℕ → Piece
operands [] r = nothing
operands (e ∷ es) r = both (operand e r) (operands es (suc r))

-- the registers where arguments stand
abbrev pub operand_registers : List ExpressionTree → ℕ → List ℕ
operand_registers [] r = []
operand_registers (e ∷ es) r = operand_register e r ∷ operand_registers es (suc r)

-- ---- statements

-- A statement, where `r` is the first temporary and `exits` are the nodes behind the blocks around it, the inmost first.
abbrev mutual
  pub statement : StatementTree → (r : ℕ) (exits : List ℕ) → Piece
  statement C.Skip r exits = nothing
  statement (C.Assign v e) r exits = expression e v r
  statement (C.Store g i e) r exits = both (operand i r) (both (operand e (suc r)) (one (Do (Store g (operand_register i r) (operand_register e (suc r))))))
  statement (C.Call f target arguments) r exits = both (operands arguments r) (one (Call f (operand_registers arguments r) target))
  statement (C.Put target e) r exits = both (operand e r) (one (Do (Put (operand_register e r) target)))
  statement (C.Sequence ss) r exits = statements ss r exits
  statement (C.If e s t) r exits = both (operand e r) (either (operand_register e r) (statement s r exits) (statement t r exits))
  statement (C.Loop s) r exits = again (statement s r exits)
  statement (C.Block s) r exits = λ next. statement s r (next ∷ exits) next
  statement (C.Exit n) r exits = λ next. nothing (slice_index_or exits n 0)
  statement (C.Return None) r exits = one (λ next. Return None)
  statement (C.Return (Some e)) r exits = both (operand e r) (one (λ next. Return (Some (operand_register e r))))

  pub statements : StatementsTree → (r : ℕ) (exits : List ℕ) → Piece
  statements C.Done r exits = nothing
  statements (C.First s rest) r exits = both (statement s r exits) (statements rest r exits)

-- ---- how many temporaries there are

-- those of an operand, its own with them
abbrev pub needs : ExpressionTree → ℕ
needs (C.Number w) = 1
needs (C.Variable v) = 1
needs (C.Load g i) = needs i
needs (C.Unary o e) = needs e
needs (C.Binary o a b) = max (needs a) (suc (needs b))
needs (C.Choice c a b) = max (needs c) (max (needs a) (needs b))

-- those of arguments, each behind those of the ones before it
abbrev pub operands_need : List ExpressionTree → ℕ
operands_need [] = 0
operands_need (e ∷ es) = max (needs e) (suc (operands_need es))

-- those of a statement: each part begins anew
abbrev mutual
  pub statement_needs : StatementTree → ℕ
  statement_needs C.Skip = 0
  statement_needs (C.Assign v e) = needs e
  statement_needs (C.Store g i e) = max (needs i) (suc (needs e))
  statement_needs (C.Call f target arguments) = operands_need arguments
  statement_needs (C.Put target e) = needs e
  statement_needs (C.Sequence ss) = statements_need ss
  statement_needs (C.If e s t) = max (needs e) (max (statement_needs s) (statement_needs t))
  statement_needs (C.Loop s) = statement_needs s
  statement_needs (C.Block s) = statement_needs s
  statement_needs (C.Exit n) = 0
  statement_needs (C.Return None) = 0
  statement_needs (C.Return (Some e)) = needs e

  pub statements_need : StatementsTree → ℕ
  statements_need C.Done = 0
  statements_need (C.First s rest) = max (statement_needs s) (statements_need rest)

-- ---- functions and programs

-- whether the last statement, within sequences too, is a `return` of a value: then the end is not reached
abbrev mutual
  pub ends_with_value : StatementTree → Bool
  ends_with_value C.Skip = false
  ends_with_value (C.Assign v e) = false
  ends_with_value (C.Store g i e) = false
  ends_with_value (C.Call f target arguments) = false
  ends_with_value (C.Put target e) = false
  ends_with_value (C.Sequence ss) = last_with_value ss
  ends_with_value (C.If e s t) = false
  ends_with_value (C.Loop s) = false
  ends_with_value (C.Block s) = false
  ends_with_value (C.Exit n) = false
  ends_with_value (C.Return None) = false
  ends_with_value (C.Return (Some e)) = true

  pub last_with_value : StatementsTree → Bool
  last_with_value C.Done = false
  last_with_value (C.First s C.Done) = ends_with_value s
  last_with_value (C.First s (C.First t rest)) = last_with_value (C.First t rest)

-- what stands at the end of a body: a `return` of nothing, where the end can be reached
abbrev pub ending : Bool → Piece
ending true = nothing
ending false = one (λ next. Return None)

-- a body's code; nothing stands before it, and nothing behind
abbrev pub body_made : FunctionTree → Made
body_made f = both (statement f.body f.variables []) (ending (ends_with_value f.body)) 0 0

-- so many numbers from one on
abbrev pub numbers_from : ℕ → ℕ → List ℕ
numbers_from first zero = []
numbers_from first (suc n) = first ∷ numbers_from (suc first) n

-- The RTL function of a Cminor function: its parameters are the first registers.
abbrev pub gen_function : FunctionTree → FunctionData
gen_function f = record {
  parameters = numbers_from 0 f.parameters;
  registers = f.variables + statement_needs f.body;
  entry = (body_made f).entry;
  nodes = (body_made f).nodes;
}

-- more nodes are needed than can be numbered
abbrev pub HasTooManyNodes : FunctionTree → Type 0
HasTooManyNodes f = node_limit < length (gen_function f).nodes

-- under the same name
abbrev pub gen_named : Named FunctionTree → Named FunctionData
gen_named f = record { name = f.name; function = gen_function f.function }

-- The RTL program of a Cminor program.
abbrev pub gen : Program FunctionTree → Program FunctionData
gen p = record { globals = p.globals; functions = map gen_named p.functions }
