-- What a cause says of a state: the cause of each state whose step has no answer holds there.
use Rattle.std.specs.Prelude.{◌≡◌, ◌≢◌, ℕ, List, [], ◌∷◌, length, None, Some, slice_get}
use Rattle.lang_base.specs.Machine.{Fails}
use Rattle.lang_base.specs.declared.program.Named.{Named}
use Rattle.ints.specs.MachineTable.{machine_table}
use Rattle.locations.specs.declared.location.Location.TheVariants.{InRegister}
use Rattle.machine.specs.Acts.{word_in}
use Rattle.machine.specs.Data.{value_at}
use Rattle.machine.specs.Frames.{State}
use Rattle.linear_language.specs.Function.{FunctionData}
use Rattle.linear_language.specs.Labels.{place_of}
use Rattle.linear_language.specs.Meaning.{next}
use Rattle.linear_faults.specs.declared.cause.Cause.{Cause}
use Rattle.linear_faults.specs.declared.cause.Cause.TheVariants.{Undefined, One, Two, Past, NoLabel, NoFunction, OtherArguments, NoInstruction, NoResult, NoMain}
use Rattle.linear_faults.specs.Causes.{cause_of}

-- the function of this number is there, and this holds of it
abbrev pub HasFunction : List (Named FunctionData) → ℕ → (FunctionData → Type 0) → Type 0
HasFunction functions number P = (f : Named FunctionData) × (slice_get functions number ≡ Some f) × P f.function

abbrev pub Holds : List (Named FunctionData) → State → Cause → Type 0
Holds functions s (Undefined r) = value_at (InRegister r) s.here ≡ None
Holds functions s (One op x) = machine_table op (x ∷ []) ≡ None
Holds functions s (Two op x y) = machine_table op (x ∷ y ∷ []) ≡ None
Holds functions s (Past global i) = word_in (slice_get s.here.globals global) i ≡ None
Holds functions s (NoLabel label) = HasFunction functions s.function (λ f. place_of label f.code ≡ None)
Holds functions s (NoFunction number) = slice_get functions number ≡ None
Holds functions s (OtherArguments number count) = HasFunction functions number (λ f. length f.parameters ≢ count)
Holds functions s NoInstruction = HasFunction functions s.function (λ f. slice_get f.code s.place ≡ None)
Holds functions s NoResult = s.callers ≡ []
Holds functions s NoMain = slice_get functions s.function ≡ None

-- The cause of each state whose step has no answer holds in that state.
abbrev pub CausesHold : Type 0
CausesHold = (functions : List (Named FunctionData)) (s : State) → next functions s ≡ Fails → Holds functions s (cause_of functions s)
