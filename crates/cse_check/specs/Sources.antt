-- Moves that equations allow, by the register that is moved from.
use Rattle.std.specs.Prelude.{◌≡◌, ℕ, List, Option, Some, None, Contains}
use Rattle.rtl_passes_facts.specs.Act.{Act}
use Rattle.rtl_passes_facts.specs.Act.TheVariants.{Move}
use Rattle.rtl_passes_facts.specs.Instruction.{Instruction}
use Rattle.rtl_passes_facts.specs.Instruction.TheVariants.{Do}
use Rattle.cse_check_rules.specs.declared.equation.Equation.{Equation}
use Rattle.cse_check_rules.specs.Equations.{shared}

-- the register that a move is from
abbrev pub act_source_of : Act → Option ℕ
act_source_of (Move target source) = Some source
act_source_of _ = None

abbrev pub source_of : Instruction → Option ℕ
source_of (Do act successor) = act_source_of act
source_of _ = None

-- the output is the move from this register, and one of the equations allows it
pub record IsSharedFrom (equations : List Equation) (i o : Instruction) (source : ℕ) : Type 0 where
  pub equation : Equation
  pub allows : shared i source ≡ Some (equation, o)
  pub known : Contains equations equation
