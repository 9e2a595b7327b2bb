-- What a run of native code shows at each bound, and what that says in the terms of the other languages.
use Rattle.std.specs.Prelude.{ℕ, zero, suc, List}
use Rattle.lang_base.specs.Behaviour.{Behaviour}
use Rattle.lang_base.specs.declared.shown.Shown.{Shown as BaseShown}
use Rattle.lang_base.specs.declared.shown.Shown.TheVariants as base
use Rattle.x86_state.specs.declared.shown.Shown.{Shown}
use Rattle.x86_state.specs.declared.shown.Shown.TheVariants.{Running, Ended, Wrong, Full, Stuck as IsStuck}
use Rattle.x86_state.specs.State.{State, Step, Goes, Ends, Stops, Fills, Stuck}

-- whether the run is over at a bound, and the bytes that it has printed by then
pub record Shows : Type 0 where
  pub shown : Shown
  pub output : List ℕ

-- what is shown where this follows, and so much is printed already
abbrev pub showing : Step → (State → Shows) → List ℕ → Shows
showing (Goes s) later output = later s
showing (Ends w) later output = record { shown = Ended w; output = output }
showing Stops later output = record { shown = Wrong; output = output }
showing Fills later output = record { shown = Full; output = output }
showing Stuck later output = record { shown = IsStuck; output = output }

-- what is shown after at most n steps from a state
abbrev pub shows : (State → Step) → ℕ → State → Shows
shows next zero s = record { shown = Running; output = s.output }
shows next (suc n) s = showing (next s) (shows next n) s.output

-- as another language's run: what is full or stuck counts as wrong there
abbrev pub shown_as : Shown → BaseShown
shown_as Running = base.Running
shown_as (Ended w) = base.Ended w
shown_as Wrong = base.Wrong
shown_as Full = base.Wrong
shown_as IsStuck = base.Wrong

abbrev pub behaviour_of : (ℕ → Shows) → Behaviour
behaviour_of run = λ n. record { shown = shown_as (run n).shown; output = (run n).output }
