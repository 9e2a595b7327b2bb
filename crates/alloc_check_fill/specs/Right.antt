-- What keeps the meaning: an output of the same shape, and for each node equations of any number in any order, in range and
-- right by the rules.
use Rattle.std.specs.Prelude.{◌≡◌, ℕ, ◌<◌, List, length, All}
use Rattle.locations.specs.Fits.{LocationFits}
use Rattle.alloc_check_rules.specs.RtlLanguageFunction as rtl
use Rattle.alloc_check_rules.specs.Function as ltl
use Rattle.alloc_check_rules.specs.declared.equation.Equation.{Equation}
use Rattle.alloc_check_rules.specs.Rules.{IsRightAt}

-- as many parameters and nodes, and the same entry
pub record SameShape (input : rtl.FunctionData) (output : ltl.FunctionData) : Type 0 where
  pub parameters : length output.parameters ≡ length input.parameters
  pub entry : output.entry ≡ input.entry
  pub nodes : length output.blocks ≡ length input.nodes

-- the equation's location is there
pub record HasPlace (slots : ℕ) (e : Equation) : Type 0 where
  pub location : LocationFits slots e.location

pub record AreRight (input : rtl.FunctionData) (output : ltl.FunctionData) (lists : List (List Equation)) : Type 0 where
  pub shape : SameShape input output
  pub each : All (All (HasPlace output.slots)) lists
  pub nodes : (n : ℕ) → n < length input.nodes → IsRightAt input output lists n
