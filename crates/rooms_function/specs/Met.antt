-- Two seats of one function, and what is so once they have met in the room of a pass.
use Rattle.std.specs.Prelude.{◌≡◌, ℕ, Some}
use Rattle.rooms.specs.SeatValue.{SeatValue, HoldSame, IsOneRoom}
use Rattle.rooms.specs.Meeting.{meeting_of, HaveMet}
use Rattle.rooms.specs.RoomsSeatMeeting.{Meeting}
use Rattle.rooms_function.specs.declared.seat.FunctionSeat.{FunctionSeat}

-- in each pass they are of one room
pub record IsOneFunction (a b : FunctionSeat) : Type 0 where
  pub first : IsOneRoom a.first b.first
  pub second : IsOneRoom a.second b.second
  pub third : IsOneRoom a.third b.third
  pub fourth : IsOneRoom a.fourth b.fourth

-- seats of one room have met there and tell what they have learned, which is one value where both have; the sights stay
pub record Met {T : Type 0} (m : Meeting) (a b a' b' : SeatValue T) : Type 0 where
  pub met : HaveMet a.words b.words a'.words b'.words
  pub answer : m ≡ meeting_of a'.words.node.learned b'.words.node.learned
  pub same : (v u : ℕ) → a'.words.node.learned ≡ Some v → b'.words.node.learned ≡ Some u → v ≡ u
  pub offer : HoldSame m a' b'
  pub first_sights : a'.sights ≡ a.sights
  pub second_sights : b'.sights ≡ b.sights
