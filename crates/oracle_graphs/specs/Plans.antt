-- Plans of blocks that are in range: moves and an act, before they are written as lists.
use Rattle.std.specs.Prelude.{ℕ, IfSome}
use Rattle.ints.specs.declared.operators.Op.{Op}
use Rattle.ints.specs.Codes.{argument_count_of}
use Rattle.machine.specs.Fits.{RegisterFits, MoveFits, ArgumentsFit}
use Rattle.rtl_acts.specs.declared.arguments.Arguments.{Arguments}
use Rattle.rtl_acts.specs.Fits as rtl
use Rattle.ltl.specs.Function.{MaybeActFits}
use Rattle.oracle_graphs.specs.declared.plan.Reached.{Reached}
use Rattle.oracle_graphs.specs.declared.plan.Operands.{Operands}
use Rattle.oracle_graphs.specs.declared.plan.Plan.{Plan}

-- a register of the machine, and the move between it and a location, if one is needed
pub record ReachedFits (slots : ℕ) (r : Reached) : Type 0 where
  pub register : RegisterFits r.register
  pub step : IfSome r.step (MoveFits slots)

-- so many arguments, and the moves that bring them to where they are taken
pub record OperandsFit (slots count : ℕ) (o : Operands) : Type 0 where
  pub arguments : ArgumentsFit count o.arguments
  pub first : IfSome o.first (MoveFits slots)
  pub second : IfSome o.second (MoveFits slots)

-- moves, an act, and a move behind it
pub record PlanFits (slots : ℕ) (p : Plan) : Type 0 where
  pub first : IfSome p.first (MoveFits slots)
  pub second : IfSome p.second (MoveFits slots)
  pub act : MaybeActFits p.act
  pub after : IfSome p.after (MoveFits slots)

-- what takes these arguments fits for as many as there are, among however many registers
abbrev pub OperandsFitFor : ℕ → Arguments → Operands → Type 0
OperandsFitFor slots arguments o = (registers count : ℕ) → rtl.ArgumentsFit registers count arguments → OperandsFit slots count o

abbrev pub PlanFitsFor : ℕ → Op → Arguments → Plan → Type 0
PlanFitsFor slots op arguments p = (registers : ℕ) → rtl.ArgumentsFit registers (argument_count_of op) arguments → PlanFits slots p
