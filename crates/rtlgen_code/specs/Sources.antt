-- The pieces of nodes that the parts of a function of Cminor become, asked of the parts as they stand in memory.
use Rattle.std.specs.Prelude.{ℕ, List, [], map, reverse, Option}
use Rattle.ints.specs.declared.conditions.Cond.TheVariants.{Nz}
use Rattle.cminor_syntax.specs.declared.expression.Expression.{Expression}
use Rattle.cminor_syntax.specs.declared.statement.Statement.{Statement}
use Rattle.cminor_syntax.specs.Trees as T
use Rattle.cminor_syntax.specs.Views.{expression_tree, statement_tree, statements_tree, optional_tree}
use Rattle.rtl_acts.specs.declared.arguments.Arguments.TheVariants.{One}
use Rattle.rtl_language.specs.declared.instruction.Instruction.TheVariants.{Branch}
use Rattle.rtlgen_definition.specs.Gen.{expression, operand, operands, operand_registers, statement, statements}
use Rattle.rtlgen_definition.specs.Pieces.{Piece, one}
use Rattle.rtlgen_code.specs.declared.graph.Graph.{Graph}
use Rattle.rtlgen_code.specs.Adding.{Adds}

-- a branch to the first node where the register is not 0, and else to the second
abbrev pub branch_piece : (register taken other : ℕ) → Piece
branch_piece register taken other = one (λ n. Branch (record { condition = Nz; arguments = One register }) taken other)

abbrev pub value_piece : Expression → (target temporary : ℕ) → Piece
value_piece e target temporary = expression (expression_tree e) target temporary

abbrev pub operand_piece : Expression → ℕ → Piece
operand_piece e temporary = operand (expression_tree e) temporary

abbrev pub operands_piece : List Expression → ℕ → Piece
operands_piece arguments temporary = operands (map expression_tree arguments) temporary

-- the registers where arguments stand
abbrev pub operand_registers_of : List Expression → ℕ → List ℕ
operand_registers_of arguments temporary = operand_registers (map expression_tree arguments) temporary

-- statements that hold no statement
abbrev pub store_piece : ℕ → Expression → Expression → ℕ → Piece
store_piece global index word temporary = statement (T.Store global (expression_tree index) (expression_tree word)) temporary []

abbrev pub call_piece : ℕ → Option ℕ → List Expression → ℕ → Piece
call_piece function target arguments temporary = statement (T.Call function target (map expression_tree arguments)) temporary []

abbrev pub put_piece : Option ℕ → Expression → ℕ → Piece
put_piece target word temporary = statement (T.Put target (expression_tree word)) temporary []

abbrev pub return_piece : Option Expression → ℕ → Piece
return_piece value temporary = statement (T.Return (optional_tree expression_tree value)) temporary []

-- The piece of a statement is added. The exits are the nodes behind the blocks around it, the inmost last.
abbrev pub AddsStatement : Statement → (temporary : ℕ) → (exits : List ℕ) → (next : ℕ) → (before after : Graph) → (begins : ℕ) → Type 0
AddsStatement s temporary exits next before after begins =
    Adds (statement (statement_tree s) temporary (reverse exits)) next before after begins

-- the same of statements in order
abbrev pub AddsStatements : List Statement → (temporary : ℕ) → (exits : List ℕ) → (next : ℕ) → (before after : Graph) → (begins : ℕ) → Type 0
AddsStatements all temporary exits next before after begins =
    Adds (statements (statements_tree all) temporary (reverse exits)) next before after begins
