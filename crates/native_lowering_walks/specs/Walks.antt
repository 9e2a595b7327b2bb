-- Steps of native code, and walks along instructions that follow one another.
use Rattle.std.specs.Prelude.{◌≡◌, ℕ, zero, suc, ◌+◌, List, [], ◌∷◌, Option, Some, slice_get}
use Rattle.lang_base.specs.declared.program.Named.{Named}
use Rattle.x86_syntax.specs.declared.function.Function.{Function}
use Rattle.x86_syntax.specs.declared.instruction.Instruction.{Instruction}
use Rattle.x86_state.specs.State.{State, Step, Goes, Ends, Stops, Fills, Stuck}
use Rattle.x86.specs.Meaning.{instruction_step, next}

-- what follows a step that goes on
abbrev pub then : Step → (State → Step) → Step
then (Goes s) rest = rest s
then (Ends w) rest = Ends w
then Stops rest = Stops
then Fills rest = Fills
then Stuck rest = Stuck

-- n steps of a program
abbrev pub steps : List (Named Function) → Option ℕ → ℕ → State → Step
steps functions room zero s = Goes s
steps functions room (suc n) s = then (next functions room s) (steps functions room n)

-- these instructions of a code, one after the other
abbrev pub walks : List (Named Function) → Option ℕ → List Instruction → List Instruction → State → Step
walks functions room code [] s = Goes s
walks functions room code (i ∷ is) s = then (instruction_step functions room code s (Some i)) (walks functions room code is)

-- these instructions stand in a code from a place on
abbrev pub StandAt : List Instruction → ℕ → List Instruction → Type 0
StandAt is place code = (j : ℕ) (i : Instruction) → slice_get is j ≡ Some i → slice_get code (place + j) ≡ Some i

-- where an instruction goes on it does so below, in the same function
abbrev pub GoesBelow : Instruction → Type 0
GoesBelow i = (functions : List (Named Function)) (room : Option ℕ) (code : List Instruction) (s t : State)
    → instruction_step functions room code s (Some i) ≡ Goes t → (t.function ≡ s.function) × (t.place ≡ s.place + 1)

-- all but the last do
abbrev pub GoStraight : List Instruction → Type 0
GoStraight [] = Unit {0}
GoStraight (i ∷ []) = Unit {0}
GoStraight (i ∷ j ∷ is) = GoesBelow i × GoStraight (j ∷ is)
