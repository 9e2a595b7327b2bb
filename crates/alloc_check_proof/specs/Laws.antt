-- What rows at marked nodes are worth.
use Rattle.std.specs.Prelude.{◌≡◌, ℕ, ◌<◌, List, length, true}
use Rattle.rtl_language.specs.Function as rtl
use Rattle.ltl.specs.Function as ltl
use Rattle.rtl_passes_marks.specs.declared.row.NodeRow.{NodeRow}
use Rattle.rtl_passes_marks.specs.Rows.{entries_at, AreRows}
use Rattle.alloc_check_rules.specs.declared.equation.Equation.{Equation}
use Rattle.alloc_check_rules.specs.Rules.{equations_at, IsInOrder, IsRightAt}
use Rattle.alloc_check_fill.specs.Right.{SameShape, AreRight}
use Rattle.alloc_check_proof.specs.Allocated.{is_marked, filled, IsAllocated}

-- accepted rows tell lists that are right, for functions in range
abbrev pub FilledAreRight : Type 0
FilledAreRight = (input : rtl.FunctionData) (output : ltl.FunctionData) (rows : List (NodeRow Equation)) → rtl.IsFunction input → ltl.IsFunction output → IsAllocated input output rows → AreRight input output (filled input output rows)

-- rows that say at marked nodes what lists say that are right everywhere
pub record SayTheSame (input : rtl.FunctionData) (lists : List (List Equation)) (rows : List (NodeRow Equation)) : Type 0 where
  pub each : (n : ℕ) → n < length input.nodes → is_marked input n ≡ true → entries_at rows n ≡ equations_at lists n

abbrev pub MarkedSuffice : Type 0
MarkedSuffice = (input : rtl.FunctionData) (output : ltl.FunctionData) (lists : List (List Equation)) (rows : List (NodeRow Equation)) → rtl.IsFunction input → SameShape input output → ((n : ℕ) → n < length input.nodes → IsRightAt input output lists n) → AreRows (IsInOrder input.registers output.slots) input.entry input.nodes rows → SayTheSame input lists rows → IsAllocated input output rows
