-- States of native code from which a run is not stuck: one of Linear is there for which it stands, reached or not.
use Rattle.std.specs.Prelude.{◌≡◌, ◌≢◌, ℕ, suc, List, length, None}
use Rattle.lang_base.specs.declared.program.Named.{Named}
use Rattle.lang_base.specs.declared.program.Program.{Program}
use Rattle.machine.specs.Frames.{State}
use Rattle.linear_language.specs.Function.{FunctionData}
use Rattle.x86_syntax.specs.declared.function.Function.{Function}
use Rattle.x86_state.specs.Shows.{shows}
use Rattle.x86_state.specs.State.{State as Native, Goes}
use Rattle.x86_state.specs.declared.shown.Shown.TheVariants.{Stuck}
use Rattle.x86.specs.Meaning.{next}
use Rattle.native_lowering_definition.specs.Lowering.{lowered}
use Rattle.native_lowering_ranges.specs.InRange.{InRange}
use Rattle.native_lowering_relation.specs.Related.{Related}
use Rattle.native_lowering_walks.specs.Walks.{steps}
use Rattle.native_lowering_safe_words.specs.InWords.{InWords}

pub record Stands (p : Program FunctionData) (t : Native) : Type 0 where
  pub linear : State
  pub related : Related p linear t
  pub range : InRange p.globals linear
  pub words : InWords (length p.globals) t

-- one step or more lead to such a state
pub record StandsAgain (p : Program FunctionData) (t : Native) : Type 0 where
  pub more : ℕ
  pub to : Native
  pub go : steps (lowered p).functions None (suc more) t ≡ Goes to
  pub stands : Stands p to

-- after n steps from a state, without a bound on the stack, a run is not stuck
abbrev pub IsFree : List (Named Function) → ℕ → Native → Type 0
IsFree functions n t = (shows (next functions None) n t).shown ≢ Stuck
