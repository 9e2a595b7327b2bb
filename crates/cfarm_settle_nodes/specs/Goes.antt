-- What a node's turns leave of its seat.
use Rattle.std.specs.Prelude.{◌≡◌, ℕ, List, Some, replicate}
use Rattle.rooms_table.specs.RoomAt.{RoomAt}
use Rattle.offers.specs.declared.parts.Parts.{Parts}
use Rattle.rooms_cells.specs.Seen.{names_of}
use Rattle.paxos_core_world.specs.KeptPart.{nothing_kept}
use Rattle.paxos_core_world.specs.Quorum.{majority_sizes}
use Rattle.rooms_words.specs.declared.view.Opening.{Opening}
use Rattle.rooms_seat_state.specs.SeatState.{SeatState}
use Rattle.rooms.specs.SeatValue.{SeatValue, offer_of}

-- how a room of three nodes opens that have kept nothing: both quorums are more than half of them
abbrev pub empty_room : Opening
empty_room = record { quorums = majority_sizes 3; kept = replicate 7 nothing_kept }

-- the words are those of the same node in the same room
pub record IsSameSeat (old new : SeatState) : Type 0 where
  pub table : new.table ≡ old.table
  pub opening : new.view.opening ≡ old.view.opening
  pub me : new.node.me ≡ old.node.me
  pub quorums : new.node.quorums ≡ old.node.quorums

-- what the node has offered, if anything, is for this input
abbrev pub OffersFor : {F G C : Type 0} → F → SeatValue (Parts F G C) → Type 0
OffersFor {F} {G} {C} f s = (x : Parts F G C) → offer_of s s.words.node.me ≡ Some x → x.input ≡ f

-- the seat is the same node's, in the same room, and what it offers is for this input
pub record SeatGoesOn {F G C : Type 0} (f : F) (old new : SeatValue (Parts F G C)) : Type 0 where
  pub room : IsSameSeat old.words new.words
  pub cells : names_of new.sights ≡ names_of old.sights
  pub own : OffersFor f old → OffersFor f new

-- the same, and nothing else was seen of the cells
pub record SeesNoMore {T : Type 0} (old new : SeatValue T) : Type 0 where
  pub room : IsSameSeat old.words new.words
  pub sights : new.sights ≡ old.sights

-- node i's seat of a room of three that began with nothing
pub record IsSeatOf {T : Type 0} (board : RoomAt) (shelf : List ℕ) (i : ℕ) (s : SeatValue T) : Type 0 where
  pub table : s.words.table ≡ board
  pub cells : names_of s.sights ≡ shelf
  pub opening : s.words.view.opening ≡ empty_room
  pub me : s.words.node.me ≡ i
  pub quorums : s.words.node.quorums ≡ majority_sizes 3

-- the seats of the three nodes of one such room
pub record AreThree {T : Type 0} (a b c : SeatValue T) : Type 0 where
  pub board : RoomAt
  pub shelf : List ℕ
  pub first : IsSeatOf board shelf 0 a
  pub second : IsSeatOf board shelf 1 b
  pub third : IsSeatOf board shelf 2 c

-- what each of them has offered is for this input
pub record AllOfferFor {F G C : Type 0} (f : F) (a b c : SeatValue (Parts F G C)) : Type 0 where
  pub first : OffersFor f a
  pub second : OffersFor f b
  pub third : OffersFor f c

-- the seats of three nodes of one such room, and what each has offered is for this input
abbrev pub AreSeatsFor : {F G C : Type 0} → F → SeatValue (Parts F G C) × SeatValue (Parts F G C) × SeatValue (Parts F G C) → Type 0
AreSeatsFor f s = AreThree s.0 s.1 s.2 × AllOfferFor f s.0 s.1 s.2
