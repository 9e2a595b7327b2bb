-- Calls from a run in memory.
use Rattle.std.specs.Prelude.{◌≡◌, ℕ, ◌+◌, List, [], ◌∷◌, Option, slice_get}
use Rattle.std.specs.Option.{option_map}
use Rattle.lang_base.specs.declared.program.Named.{Named}
use Rattle.locations.specs.declared.location.Location.{Location}
use Rattle.machine.specs.Calls.{values_of, waiting, calls}
use Rattle.linear_language.specs.Function.{FunctionData}
use Rattle.linear_language.specs.Meaning.{callee_of}
use Rattle.linear_faults_run.specs.declared.callers.Caller.{Caller}
use Rattle.linear_faults_run.specs.declared.run.Run.{Run}
use Rattle.linear_faults_run.specs.declared.step.Step.{Step}
use Rattle.linear_faults_run.specs.declared.words.Words.{Words}
use Rattle.linear_faults_run.specs.Steps.{Follows}

abbrev pub caller_of : Run → ℕ → Option Location → Caller
caller_of r below target = record { function = r.function; place = below; words = r.words; target = target }

-- the running function waits, and the function of this number begins with these words
abbrev pub Entered : Run → ℕ → Words → ℕ → Option Location → Run → Type 0
Entered before number words below target after =
    after ≡ record { function = number; place = 0; words = words; globals = before.globals; callers = caller_of before below target ∷ before.callers }

-- a call of this function with these arguments leads from the one to the other
abbrev pub CallsSo : List (Named FunctionData) → ℕ → List Location → Option Location → Run → Step → Run → Type 0
CallsSo functions number arguments target before step after =
    Follows
    (λ s. calls s s.here number (values_of arguments s.here) (waiting s s.here target (s.place + 1) []) (option_map callee_of (slice_get functions number)))
    before step after
