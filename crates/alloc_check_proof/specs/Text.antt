-- The bytes of rows of equations, and those that can be written.
use Rattle.std.specs.Prelude.{ℕ, ◌≤◌, ◌^◌, List, ◌++◌, length}
use Rattle.locations.specs.Spelling.{location_text}
use Rattle.rtl_acts.specs.Spelling.{register_text}
use Rattle.rtl_language.specs.Function as rtl
use Rattle.ltl.specs.Function as ltl
use Rattle.rtl_passes_marks.specs.declared.row.NodeRow.{NodeRow}
use Rattle.rtl_passes_marks.specs.RowForm.{RowsFit, rows_text}
use Rattle.alloc_check_rules.specs.declared.equation.Equation.{Equation}
use Rattle.alloc_check_rules.specs.Rules.{EquationFits}

-- the register, then the location
abbrev pub equation_text : Equation → List ℕ
equation_text e = register_text e.register ++ location_text e.location

-- the number of rows, and of each the node, the number of its equations, and the equations
abbrev pub cert_text : List (NodeRow Equation) → List ℕ
cert_text rows = rows_text equation_text rows

-- rows that can be written beside this input and output
pub record CertFits (input : rtl.FunctionData) (output : ltl.FunctionData) (rows : List (NodeRow Equation)) : Type 0 where
  pub registers : input.registers ≤ 2 ^ 16
  pub slots : output.slots ≤ 2 ^ 16
  pub nodes : length input.nodes ≤ 2 ^ 16
  pub each : RowsFit (EquationFits input.registers output.slots) (length input.nodes) rows
