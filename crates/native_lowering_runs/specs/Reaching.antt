-- One step of Linear and the steps of native code that match it.
use Rattle.std.specs.Prelude.{◌≡◌, ℕ, suc, Option, Some, slice_get}
use Rattle.lang_base.specs.declared.program.Named.{Named}
use Rattle.lang_base.specs.declared.program.Program.{Program}
use Rattle.machine.specs.Frames.{State}
use Rattle.linear_language.specs.Function.{FunctionData, IsFunction}
use Rattle.x86_state.specs.State.{State as Native, Goes}
use Rattle.native_lowering_definition.specs.Lowering.{lowered}
use Rattle.native_lowering_relation.specs.Related.{Related}
use Rattle.native_lowering_walks.specs.Walks.{steps}

-- each function is in range
abbrev pub AreFunctions : Program FunctionData → Type 0
AreFunctions p = (k : ℕ) (named : Named FunctionData) → slice_get p.functions k ≡ Some named → IsFunction named.function

-- one step or more of native code lead to a state that stands for this one of Linear
pub record Reaches (p : Program FunctionData) (room : Option ℕ) (s : State) (t : Native) : Type 0 where
  pub more : ℕ
  pub to : Native
  pub go : steps (lowered p).functions room (suc more) t ≡ Goes to
  pub related : Related p s to
