-- What a caller has when it goes on behind a call.
use Rattle.std.specs.Prelude.{◌≡◌, ◌≢◌, ℕ, ◌<◌, ◌≤◌, List, Option, None, Some}
use Rattle.locations.specs.declared.location.Location.{Location}
use Rattle.locations.specs.declared.location.Location.TheVariants.{InRegister, InSlot}
use Rattle.locations.specs.declared.location.Move.{Move}
use Rattle.machine.specs.Calls.{waiting}
use Rattle.machine.specs.Data.{Data, value_at, all_moved}
use Rattle.machine.specs.Frames.{Frame, State, resumed}
use Rattle.machine.specs.Words.{LiesIn, words_after}

-- r0 to r3 are lost
abbrev pub TemporariesAreLost : Type 0
TemporariesAreLost = (s : State) (before after : Data) (value : Option ℕ) (r : ℕ) → r < 4 → value_at (InRegister r) (words_after s before after None value) ≡ None

-- the other registers are as they were
abbrev pub RegistersAreKept : Type 0
RegistersAreKept = (s : State) (before after : Data) (value : Option ℕ) (r : ℕ) → 4 ≤ r → value_at (InRegister r) (words_after s before after None value) ≡ value_at (InRegister r) before

-- the slots are as they were
abbrev pub SlotsAreKept : Type 0
SlotsAreKept = (s : State) (before after : Data) (value : Option ℕ) (slot : ℕ) → value_at (InSlot slot) (words_after s before after None value) ≡ value_at (InSlot slot) before

-- the location of the result has it
abbrev pub ResultIsSet : Type 0
ResultIsSet = (s : State) (before after : Data) (value : Option ℕ) (l : Location) → LiesIn before l → value_at l (words_after s before after (Some l) value) ≡ value

-- no other location is changed by that
abbrev pub OtherLocationsStay : Type 0
OtherLocationsStay = (s : State) (before after : Data) (value : Option ℕ) (target l : Location) → target ≢ l → value_at l (words_after s before after (Some target) value) ≡ value_at l (words_after s before after None value)

-- the globals are those that the callee left
abbrev pub GlobalsGoOn : Type 0
GlobalsGoOn = (s : State) (before after : Data) (value : Option ℕ) (target : Option Location) → (words_after s before after target value).globals ≡ after.globals

-- the output is that of the callee
abbrev pub OutputGoesOn : Type 0
OutputGoesOn = (s : State) (before after : Data) (value : Option ℕ) (target : Option Location) → (words_after s before after target value).output ≡ after.output

-- the moves that still were to be done come last
abbrev pub MovesComeLast : Type 0
MovesComeLast = (s : State) (before after : Data) (value : Option ℕ) (target : Option Location) (place : ℕ) (moves : List Move) (callers : List Frame) → (resumed value after (waiting s before target place moves) callers).here ≡ all_moved moves (words_after s before after target value)
