-- Which rooms a function's seat is of, and what two such seats tell when they meet.
use Rattle.std.specs.Prelude.{◌≡◌, [], ◌∷◌, Option, None}
use Rattle.rooms_cells.specs.Seen.{names_of}
use Rattle.rooms_hall.specs.RoomId.{RoomId}
use Rattle.rooms_function.specs.declared.meeting.FunctionMeeting.{FunctionMeeting}
use Rattle.rooms_function.specs.declared.seat.FunctionSeat.{FunctionSeat}
use Rattle.rooms_function.specs.Met.{Met}
use Rattle.rooms_function.specs.SeatValue.{IsOneRoom}

-- pass by pass, where its words are, and the names of its cells
abbrev pub function_of : FunctionSeat → RoomId
function_of s =
    record {
      places = s.first.words.table ∷ s.second.words.table ∷ s.third.words.table ∷ s.fourth.words.table ∷ [];
      cells = names_of s.first.sights ∷ names_of s.second.sights ∷ names_of s.third.sights ∷ names_of s.fourth.sights ∷ [];
    }

-- in no pass are they of one room
pub record ShareNoRoom (a b : FunctionSeat) : Type 0 where
  pub first : ¬ IsOneRoom a.first b.first
  pub second : ¬ IsOneRoom a.second b.second
  pub third : ¬ IsOneRoom a.third b.third
  pub fourth : ¬ IsOneRoom a.fourth b.fourth

-- those of two functions are left as they were
abbrev pub AreAsBefore : Option FunctionMeeting → FunctionSeat → FunctionSeat → FunctionSeat → FunctionSeat → Type 0
AreAsBefore m a b a' b' = m ≡ None → (a' ≡ a) × (b' ≡ b)

-- those of one have met in each pass
pub record HaveMetIn (m : FunctionMeeting) (a b a' b' : FunctionSeat) : Type 0 where
  pub first : Met m.first a.first b.first a'.first b'.first
  pub second : Met m.second a.second b.second a'.second b'.second
  pub third : Met m.third a.third b.third a'.third b'.third
  pub fourth : Met m.fourth a.fourth b.fourth a'.fourth b'.fourth
