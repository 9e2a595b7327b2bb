-- What the pass accepts: an output that differs by moves, and for marked nodes the equations that hold there.
use Rattle.std.specs.Prelude.{◌≡◌, ◌⊎◌, ℕ, Bool, false, List, [], ◌∷◌, Option, Some, Contains, not}
use Rattle.ints.specs.Codes.{argument_count_of}
use Rattle.rtl_acts.specs.Fits.{RegisterFits, GlobalFits, ArgumentsFit}
use Rattle.rtl_passes_filled.specs.Instruction.{Instruction}
use Rattle.rtl_passes_filled.specs.Function.{FunctionData}
use Rattle.rtl_passes_filled.specs.NodeRow.{NodeRow}
use Rattle.rtl_passes_filled.specs.Rules.{RulesOf}
use Rattle.rtl_passes_filled.specs.Accepted.{IsAccepted}
use Rattle.cse_check_rules.specs.declared.equation.RightSide.{RightSide}
use Rattle.cse_check_rules.specs.declared.equation.RightSide.TheVariants.{Operation, Cell, Copy}
use Rattle.cse_check_rules.specs.declared.equation.Equation.{Equation}
use Rattle.cse_check_rules.specs.Equations.{equation_by, kills, shared, successors_of}
use Rattle.cse_check_rules.specs.Order.{IsBefore, rank}

-- an operator with as many arguments as it takes, a cell of a global that can be, or a register
abbrev pub RightFits : ℕ → RightSide → Type 0
RightFits registers (Operation op arguments) = ArgumentsFit registers (argument_count_of op) arguments
RightFits registers (Cell global index) = GlobalFits global × RegisterFits registers index
RightFits registers (Copy source) = RegisterFits registers source

abbrev pub EquationFits : ℕ → Equation → Type 0
EquationFits registers equation = RegisterFits registers equation.register × RightFits registers equation.right

-- each comes before the next
abbrev pub Rise : List Equation → Type 0
Rise [] = Unit {0}
Rise (equation ∷ []) = Unit {0}
Rise (equation ∷ (next ∷ equations)) = IsBefore equation next × Rise (next ∷ equations)

-- behind an instruction an equation is known that it makes, or that is among those before it and is not killed
abbrev pub IsKnown : Instruction → List Equation → Equation → Type 0
IsKnown i before equation = (equation_by i ≡ Some equation) ⊎ (Contains before equation × (kills i equation ≡ false))

-- a move from a register that one of the equations allows
pub record IsShared (equations : List Equation) (i o : Instruction) : Type 0 where
  pub source : ℕ
  pub equation : Equation
  pub allows : shared i source ≡ Some (equation, o)
  pub known : Contains equations equation

-- whether an instruction does not kill an equation
abbrev pub keeps_by : Instruction → Equation → Bool
keeps_by i equation = not (kills i equation)

abbrev pub elimination : RulesOf Equation
elimination = record {
  Fits = EquationFits;
  Rise = Rise;
  rank = rank;
  register = λ equation. equation.register;
  made = λ i equations. equation_by i;
  keeps = keeps_by;
  edges = λ i equations. successors_of i;
  IsKnown = IsKnown;
  Becomes = IsShared;
}

-- What is accepted: the form is kept, and each node keeps the rules with the equations that are filled in.
abbrev pub IsEliminated : FunctionData → FunctionData → List (NodeRow Equation) → Type 0
IsEliminated input output rows = IsAccepted elimination input output rows
