-- A seat of a room: its words, and what it has seen of the cells.
use Rattle.std.specs.Prelude.{◌≡◌, ◌≢◌, ℕ, false, true, List, Option, Some, None, IsSome}
use Rattle.paxos_core_node_steps.specs.NodeState.{offered}
use Rattle.rooms_cells.specs.declared.sight.Put.{Put}
use Rattle.rooms_cells.specs.declared.sight.Put.TheVariants as put
use Rattle.rooms_cells.specs.Seen.{SightOf, names_of, value_at}
use Rattle.rooms_seat.specs.declared.meeting.Meeting.{Meeting}
use Rattle.rooms_seat.specs.declared.meeting.Meeting.TheVariants.{Same}
use Rattle.rooms_seat.specs.SeatState.{SeatState}

-- T is what an offer is
pub record SeatValue (T : Type 0) : Type 0 where
  pub words : SeatState
  pub sights : List (SightOf T)

-- what the seat has seen of node j's offer
abbrev pub offer_of : {T : Type 0} → SeatValue T → ℕ → Option T
offer_of s j = value_at s.sights j

-- if its node has offered, an offer stands in the node's cell, and the seat has seen it
abbrev pub IsFilled : {T : Type 0} → SeatValue T → Type 0
IsFilled s = s.words.node.kept.offered ≡ true → IsSome (offer_of s s.words.node.me)

-- the seats are of one room: they load the same words, and read the same cells
pub record IsOneRoom {T : Type 0} (a b : SeatValue T) : Type 0 where
  pub table : a.words.table ≡ b.words.table
  pub cells : names_of a.sights ≡ names_of b.sights

-- what became of the offer b, that is x: it stands, and the seat has seen it; or it came back, and the seat is as it was
abbrev pub IsOffered : {B T : Type 0} → Put B → B → T → SeatValue T → SeatValue T → Type 0
IsOffered put.Yes b x old new =
    (old.words.node.kept.offered ≡ false) × (new.words ≡ record old.words { node = offered old.words.node })
    × (offer_of old old.words.node.me ≡ None) × (offer_of new old.words.node.me ≡ Some x)
    × ((j : ℕ) → j ≢ old.words.node.me → offer_of new j ≡ offer_of old j)
IsOffered (put.No back) b x old new = (back ≡ b) × (new ≡ old)
IsOffered (put.NoMemory back) b x old new = (back ≡ b) × (new ≡ old)

-- where both have learned v, the offers of v that they have seen are equal
abbrev pub HoldSame : {T : Type 0} → Meeting → SeatValue T → SeatValue T → Type 0
HoldSame {T} (Same v) a b = (x y : T) → offer_of a v ≡ Some x → offer_of b v ≡ Some y → x ≡ y
HoldSame other a b = Unit {0}
