-- What follows where a run stands, whatever was printed.
use Rattle.std.specs.Prelude.{◌≡◌, ℕ, List, [], ◌∷◌, ◌++◌, Option, Some, slice_get}
use Rattle.lang_base.specs.Machine.{Next, Goes, Ends, Fails}
use Rattle.lang_base.specs.declared.program.Named.{Named}
use Rattle.locations.specs.declared.location.Location.{Location}
use Rattle.machine.specs.Calls.{values_of, with_arguments}
use Rattle.machine.specs.Frames.{State, comes_back}
use Rattle.linear_language.specs.Function.{FunctionData}
use Rattle.linear_language.specs.declared.instruction.Instruction.{Instruction}
use Rattle.linear_language.specs.Meaning.{instruction_step, next}
use Rattle.linear_faults_run.specs.declared.run.Run.{Run}
use Rattle.linear_faults_run.specs.declared.step.Step.{Step}
use Rattle.linear_faults_run.specs.declared.step.Step.TheVariants as step
use Rattle.linear_faults_run.specs.declared.words.Words.{Words}
use Rattle.linear_faults_run.specs.Standing.{data_of, state_of}

-- what follows, by the states behind it; a byte that is printed comes behind the output
abbrev pub led : Step → (List ℕ → State) → List ℕ → Next State
led step.Goes state output = Goes (state output)
led (step.Prints byte) state output = Goes (state (output ++ byte ∷ []))
led (step.Ends result) state output = Ends result
led step.Fails state output = Fails

-- this follows the first by this rule, and then the run stands so
abbrev pub Follows : (State → Next State) → Run → Step → Run → Type 0
Follows rule before step after = (output : List ℕ) → rule (state_of before output) ≡ led step (state_of after) output

-- so it does by this instruction of this code, in a program of these functions
abbrev pub StepsBy : List (Named FunctionData) → List Instruction → Instruction → Run → Step → Run → Type 0
StepsBy functions code i before step after = Follows (λ s. instruction_step functions code s (Some i)) before step after

-- the instruction of this code at its place, in a program of these functions
abbrev pub code_step : List (Named FunctionData) → List Instruction → State → Next State
code_step functions code s = instruction_step functions code s (slice_get code s.place)

-- so it does by the meaning of these functions
abbrev pub Steps : List (Named FunctionData) → Run → Step → Run → Type 0
Steps functions before step after = Follows (next functions) before step after

-- where a step has no answer the run stands where it stood
abbrev pub Stays : Step → Run → Run → Type 0
Stays step.Goes before after = Unit {0}
Stays (step.Prints byte) before after = Unit {0}
Stays (step.Ends result) before after = Unit {0}
Stays step.Fails before after = (output : List ℕ) → state_of after output ≡ state_of before output

-- the words of the parameters become those of the caller's arguments
abbrev pub Passes : Words → List Location → List Location → Words → Words → Type 0
Passes before parameters arguments caller after =
    (globals : List (List ℕ)) (output : List ℕ)
    → with_arguments parameters (values_of arguments (data_of caller globals output)) (data_of before globals output) ≡ data_of after globals output

-- a return that gives this, or has none to give, leads from the one to the other
abbrev pub Returns : Option (Option ℕ) → Run → Step → Run → Type 0
Returns given before step after = Follows (λ s. comes_back s.callers s.here given) before step after
