-- Which registers are live at a node: from there a use is reached, and no node before it defines the register (Appel 1998,
-- chapter 10; Nielson, Nielson and Hankin 1999, section 2.1.4).
use Rattle.std.specs.Prelude.{◌≢◌, ℕ, zero, suc, List, [], ◌∷◌, Option, Some, None, slice_get, Contains}
use Rattle.rtl_acts.specs.declared.arguments.Arguments.{Arguments}
use Rattle.rtl_acts.specs.declared.arguments.Arguments.TheVariants.{One, Two}
use Rattle.rtl_acts.specs.declared.act.Act.{Act}
use Rattle.rtl_acts.specs.declared.act.Act.TheVariants.{Nop, Constant, Move, Operate, Load, Store, Put}
use Rattle.rtl_language.specs.declared.instruction.Instruction.{Instruction}
use Rattle.rtl_language.specs.declared.instruction.Instruction.TheVariants.{Do, Call, Branch, Return}
use Rattle.alloc_check_rules.specs.Pairs.{successors_of}

-- ---- the registers that are used

abbrev pub named : Arguments → List ℕ
named (One a) = a ∷ []
named (Two a b) = a ∷ (b ∷ [])

abbrev pub used_by_act : Act → List ℕ
used_by_act Nop = []
used_by_act (Constant target word) = []
used_by_act (Move target source) = source ∷ []
used_by_act (Operate op target names) = named names
used_by_act (Load target global index) = index ∷ []
used_by_act (Store global index source) = index ∷ (source ∷ [])
used_by_act (Put source target) = source ∷ []

abbrev pub used_by : Instruction → List ℕ
used_by (Do act successor) = used_by_act act
used_by (Call function names target successor) = names
used_by (Branch test taken other) = named test.arguments
used_by (Return None) = []
used_by (Return (Some value)) = value ∷ []

-- ---- the register that is defined, if one is

abbrev pub defined_by_act : Act → Option ℕ
defined_by_act Nop = None
defined_by_act (Constant target word) = Some target
defined_by_act (Move target source) = Some target
defined_by_act (Operate op target names) = Some target
defined_by_act (Load target global index) = Some target
defined_by_act (Store global index source) = None
defined_by_act (Put source target) = target

abbrev pub defined_by : Instruction → Option ℕ
defined_by (Do act successor) = defined_by_act act
defined_by (Call function names target successor) = target
defined_by (Branch test taken other) = None
defined_by (Return value) = None

-- ---- of a node, if it is there

abbrev pub used_of : Option Instruction → List ℕ
used_of None = []
used_of (Some i) = used_by i

abbrev pub defined_of : Option Instruction → Option ℕ
defined_of None = None
defined_of (Some i) = defined_by i

abbrev pub onward_of : Option Instruction → List ℕ
onward_of None = []
onward_of (Some i) = successors_of i

-- ---- liveness

-- so many steps on from the node the register is used, and no node before that one defines it
abbrev pub LivesFor : List Instruction → ℕ → ℕ → ℕ → Type 0
LivesFor nodes zero n register = Contains (used_of (slice_get nodes n)) register
LivesFor nodes (suc steps) n register =
    (m : ℕ) × (defined_of (slice_get nodes n) ≢ Some register) × Contains (onward_of (slice_get nodes n)) m × LivesFor nodes steps m register

abbrev pub IsLive : List Instruction → ℕ → ℕ → Type 0
IsLive nodes n register = (steps : ℕ) × LivesFor nodes steps n register
