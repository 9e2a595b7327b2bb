-- What the third pass accepts: rows of equations at marked nodes, and the lists that are told from them at the others.
use Rattle.std.specs.Prelude.{ℕ, List, length, Option, Some, None, Bool, true, false}
use Rattle.rtl_language.specs.Function as rtl
use Rattle.ltl.specs.Function as ltl
use Rattle.alloc_check_rules.specs.Faults.{KeepsRules}
use Rattle.rtl_passes_marks.specs.declared.row.NodeRow.{NodeRow}
use Rattle.rtl_passes_marks.specs.Marks.{feeder}
use Rattle.rtl_passes_marks.specs.Rows.{entries_at, AreRows}
use Rattle.alloc_check_rules.specs.declared.equation.Equation.{Equation}
use Rattle.alloc_check_rules.specs.Rules.{IsInOrder, IsRightAt}
use Rattle.alloc_check_fill.specs.Fill.{fill}
use Rattle.alloc_check_fill.specs.Right.{SameShape}

abbrev pub is_none : Option ℕ → Bool
is_none None = true
is_none (Some n) = false

-- a node that no lower node alone leads to
abbrev pub is_marked : rtl.FunctionData → ℕ → Bool
is_marked input n = is_none (feeder input.entry input.nodes n)

-- the equations of each node: a marked node's row, and what the block of any other needs
abbrev pub filled : rtl.FunctionData → ltl.FunctionData → List (NodeRow Equation) → List (List Equation)
filled input output rows = fill (is_marked input) (entries_at rows) input.nodes output.blocks

-- The form: as many parameters and nodes, the same entry, and rows for marked nodes alone, by rising nodes, none of them
-- empty, each with equations in order.
pub record HasForm (input : rtl.FunctionData) (output : ltl.FunctionData) (rows : List (NodeRow Equation)) : Type 0 where
  pub shape : SameShape input output
  pub at_marked : AreRows (IsInOrder input.registers output.slots) input.entry input.nodes rows

-- What is accepted: the form is kept, and each node keeps the rules, with the lists that are told from the rows.
abbrev pub IsAllocated : rtl.FunctionData → ltl.FunctionData → List (NodeRow Equation) → Type 0
IsAllocated input output rows =
    KeepsRules (HasForm input output rows) (IsRightAt input output (filled input output rows)) (length input.nodes)
