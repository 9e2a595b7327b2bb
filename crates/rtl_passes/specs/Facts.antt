-- Passes that change a function's instructions by facts which hold at its nodes, and how the runs of
-- two programs then go side by side: in the same states (Leroy 2009, section 3.2, on dataflow analyses).
use Rattle.std.specs.Prelude.{◌≡◌, ◌≢◌, ℕ, List, length, Option, Some, slice_get}
use Rattle.std.specs.List.{AllByRecursion}
use Rattle.lang_base.specs.declared.program.Named.{Named}
use Rattle.rtl_language.specs.Data.{Data}
use Rattle.rtl_language.specs.Acts.{with_result}
use Rattle.rtl_language.specs.declared.instruction.Instruction.{Instruction}
use Rattle.rtl_language.specs.Function.{FunctionData}
use Rattle.rtl_language.specs.Frames.{Frame, State}
use Rattle.rtl_passes.specs.Shape.{HasSameShape}
use Rattle.rtl_passes.specs.Effects.{Effect, Faults, effect_of, HoldsAfter}

-- The node of this number does from this data what the input's does, and then the facts hold there.
pub record IsMatched (Holds : ℕ → Data → Type 0) (nodes : List Instruction) (n : ℕ) (d : Data) (effect : Effect) : Type 0 where
  pub instruction : Instruction
  pub stands : slice_get nodes n ≡ Some instruction
  pub alike : effect_of instruction d ≡ effect
  pub after : HoldsAfter Holds d effect

-- What a pass is to show: the shape stays; at the entry its facts hold of any data; and each node
-- is matched wherever its facts hold and the input's does not go wrong.
pub record IsStepwise {C : Type 0} (Accepts : FunctionData → FunctionData → C → Type 0) (Holds : C → ℕ → Data → Type 0) : Type 0 where
  pub shape : (f g : FunctionData) (c : C) → Accepts f g c → HasSameShape f g
  pub entry : (f g : FunctionData) (c : C) → Accepts f g c → (d : Data) → Holds c f.entry d
  pub node : (f g : FunctionData) (c : C) → Accepts f g c → (n : ℕ) (i : Instruction) → slice_get f.nodes n ≡ Some i → (d : Data) → length d.registers ≡ f.registers → Holds c n d → effect_of i d ≢ Faults → IsMatched (Holds c) g.nodes n d (effect_of i d)

-- the functions of a number in both programs, accepted with a certificate
pub record Pair {C : Type 0} (Accepts : FunctionData → FunctionData → C → Type 0) (sources targets : List (Named FunctionData)) (number : ℕ) : Type 0 where
  pub source : Named FunctionData
  pub target : Named FunctionData
  pub certificate : C
  pub is_source : slice_get sources number ≡ Some source
  pub is_target : slice_get targets number ≡ Some target
  pub accepted : Accepts source.function target.function certificate

-- A caller that waits: when it goes on the facts hold, whatever was returned.
pub record WaitsWith {C : Type 0} (Accepts : FunctionData → FunctionData → C → Type 0) (Holds : C → ℕ → Data → Type 0) (sources targets : List (Named FunctionData)) (frame : Frame) : Type 0 where
  pub pair : Pair Accepts sources targets frame.function
  pub counted : length frame.registers ≡ pair.source.function.registers
  pub holds : (value : Option ℕ) (d : Data) → d.registers ≡ frame.registers → Holds pair.certificate frame.place (with_result frame.target value d)

-- The facts hold of a state, and of each caller that waits.
pub record StandsWith {C : Type 0} (Accepts : FunctionData → FunctionData → C → Type 0) (Holds : C → ℕ → Data → Type 0) (sources targets : List (Named FunctionData)) (s : State) : Type 0 where
  pub pair : Pair Accepts sources targets s.function
  pub counted : length s.here.registers ≡ pair.source.function.registers
  pub holds : Holds pair.certificate s.place s.here
  pub callers : AllByRecursion (WaitsWith Accepts Holds sources targets) s.callers

-- both programs are in the same state, and the facts hold of it
pub record AreAlike {C : Type 0} (Accepts : FunctionData → FunctionData → C → Type 0) (Holds : C → ℕ → Data → Type 0) (sources targets : List (Named FunctionData)) (s t : State) : Type 0 where
  pub same : t ≡ s
  pub stands : StandsWith Accepts Holds sources targets s
