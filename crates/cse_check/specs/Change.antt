-- What an instruction does to equations.
use Rattle.std.specs.Prelude.{◌≡◌, ℕ, Bool, false, ◌||◌, Option, None, not}
use Rattle.rtl_passes_facts.specs.Act.{Act}
use Rattle.rtl_passes_facts.specs.Act.TheVariants.{Nop, Constant, Move, Operate, Load, Store, Put}
use Rattle.rtl_passes_facts.specs.Instruction.{Instruction}
use Rattle.rtl_passes_facts.specs.Instruction.TheVariants.{Do, Call, Branch, Return}
use Rattle.cse_check_rules.specs.Known.{written_by}
use Rattle.cse_check_rules.specs.declared.equation.RightSide.{RightSide}
use Rattle.cse_check_rules.specs.declared.equation.Equation.{Equation}
use Rattle.cse_check_rules.specs.Equations.{equation_by, loads, loads_from, overwrites}
use Rattle.cse_check.specs.declared.change.Cells.{Cells}
use Rattle.cse_check.specs.declared.change.Cells.TheVariants.{NoCell, CellsOf, AllCells}
use Rattle.cse_check.specs.declared.change.Change.{Change}

-- the cells that may hold other words behind an instruction
abbrev pub cells_of_act : Act → Cells
cells_of_act (Store global index source) = CellsOf global
cells_of_act _ = NoCell

abbrev pub cells_by : Instruction → Cells
cells_by (Do act successor) = cells_of_act act
cells_by (Call function arguments target successor) = AllCells
cells_by _ = NoCell

-- whether a right side is one of these cells
abbrev pub disturbed : Cells → RightSide → Bool
disturbed NoCell right = false
disturbed (CellsOf global) right = loads_from right global
disturbed AllCells right = loads right

abbrev pub change_of : Instruction → Change
change_of i = record { made = equation_by i; written = written_by i; cells = cells_by i }

-- whether an equation holds on over the change
abbrev pub keeps : Change → Equation → Bool
keeps change equation = not (overwrites change.written equation || disturbed change.cells equation.right)

pub record ChangesNothing (change : Change) : Type 0 where
  pub written : change.written ≡ None
  pub cells : change.cells ≡ NoCell
