-- Seats that go on: what the meetings of a node leave of its seats.
use Rattle.std.specs.Prelude.{◌≡◌, ℕ, List, length, Some, slice_get}
use Rattle.rooms_hall.specs.declared.hall.Naming as naming
use Rattle.farm_nodes_meet_seats.specs.NumberedSeat.{NumberedSeat}
use Rattle.farm_nodes_meet_seats.specs.OfRun.{GoesOn}
use Rattle.farm_nodes_meet_seats.specs.SeatValue.{IsOneRoom, SeatValue}

-- The seat is of the same room and of the same node, it goes on in its run, and what its node keeps and has learned stands.
pub record SeatGoesOn {T : Type 0} (old new : SeatValue T) : Type 0 where
  pub room : IsOneRoom new old
  pub me : new.words.node.me ≡ old.words.node.me
  pub kept : new.words.node.kept ≡ old.words.node.kept
  pub learned : (v : ℕ) → old.words.node.learned ≡ Some v → new.words.node.learned ≡ Some v
  pub run : GoesOn old.words new.words

module _ {H : Type 0} {h : naming.Ghosts H} where
  -- so it is in the four rooms of a function, which have their number
  pub record FunctionGoesOn (old new : NumberedSeat H h) : Type 0 where
    pub number : new.claim ≡ old.claim
    pub constants : SeatGoesOn old.seat.first new.seat.first
    pub expressions : SeatGoesOn old.seat.second new.seat.second
    pub allocation : SeatGoesOn old.seat.third new.seat.third
    pub order : SeatGoesOn old.seat.fourth new.seat.fourth

  -- and of all functions, which are as many
  pub record SeatsGoOn (xs ys : List (NumberedSeat H h)) : Type 0 where
    pub count : length ys ≡ length xs
    pub each : (k : ℕ) (a b : NumberedSeat H h) → slice_get xs k ≡ Some a → slice_get ys k ≡ Some b → FunctionGoesOn a b
