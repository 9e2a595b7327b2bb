-- What moving arguments leaves in registers and in the frame.
use Rattle.std.specs.Prelude.{ℕ, zero, suc, ◌+◌, List, [], ◌∷◌, Option, slice_index, slice_set}
use Rattle.locations.specs.declared.location.Location.{Location}
use Rattle.locations.specs.declared.location.Location.TheVariants.{InRegister, InSlot}
use Rattle.x86_syntax.specs.declared.register.Register.{Register}
use Rattle.x86_state.specs.Registers.{with_word}
use Rattle.x86_state.specs.declared.cell.Cell.{Cell}
use Rattle.x86_state.specs.declared.cell.Spot.{Spot}
use Rattle.x86_state.specs.State.{State, rest_of}
use Rattle.native_lowering_relation.specs.Standing.{Held, laid}

-- the word at a location
abbrev pub word_at_location : Location → List ℕ → Held → ℕ
word_at_location (InRegister r) words held = slice_index words r
word_at_location (InSlot s) words held = slice_index held.slots s

-- the state at a place, with these registers and this frame on top of the stack
abbrev pub with_frame : State → Option Spot → List Cell → ℕ → List ℕ → Held → State
with_frame t back under place words held = record t { place = place; registers = words; stack = laid held back under }

-- a word out of a slot goes through eax
abbrev pub through_eax : Location → List ℕ → Held → List ℕ
through_eax (InRegister r) words held = words
through_eax (InSlot s) words held = slice_set words 8 (slice_index held.slots s)

-- a cell for arguments has the word of a location
abbrev pub with_argument : ℕ → Location → List ℕ → Held → Held
with_argument cell l words held = record held { outs = slice_set held.outs cell (word_at_location l words held) }

-- the registers and the frame once all of these are in cells from this one on
abbrev pub words_kept : List Location → List ℕ → Held → List ℕ
words_kept [] words held = words
words_kept (l ∷ ls) words held = words_kept ls (through_eax l words held) held

abbrev pub held_kept : ℕ → List Location → List ℕ → Held → Held
held_kept cell [] words held = held
held_kept cell (l ∷ ls) words held = held_kept (cell + 1) ls (through_eax l words held) (with_argument cell l words held)

-- the registers once these hold the words of the locations, as far as both go
abbrev pub words_fetched : List Register → List Location → List ℕ → Held → List ℕ
words_fetched [] ls words held = words
words_fetched (r ∷ rs) [] words held = words
words_fetched (r ∷ rs) (l ∷ ls) words held = words_fetched rs ls (with_word r (word_at_location l words held) words) held

-- so many words of a stream, the last on top of these
abbrev pub drawn : ℕ → (ℕ → ℕ) → List ℕ → List ℕ
drawn zero junk ws = ws
drawn (suc n) junk ws = drawn n (rest_of junk) (junk 0 ∷ ws)

-- the stream behind so many words
abbrev pub behind : ℕ → (ℕ → ℕ) → ℕ → ℕ
behind zero junk = junk
behind (suc n) junk = behind n (rest_of junk)

-- the words of these registers
abbrev pub words_of : List ℕ → List ℕ → List ℕ
words_of [] words = []
words_of (r ∷ rs) words = slice_index words r ∷ words_of rs words

-- a list where these stand from a place on
abbrev pub written_from : ℕ → List ℕ → List ℕ → List ℕ
written_from j [] saved = saved
written_from j (w ∷ ws) saved = written_from (j + 1) ws (slice_set saved j w)
