-- Records that a node has put down at once, of at most one step a room, and what its seats keep while it takes the steps: over lists,
-- with no disk.
use Rattle.std.specs.Prelude.{◌≡◌, ◌≢◌, ◌⊎◌, ℕ, ◌<◌, ◌≤◌, List, [], ◌∷◌, ◌++◌, All, Option, Some}
use Rattle.paxos_core_world.specs.KeptPart.{KeptPart}
use Rattle.acceptor_log_form.specs.declared.record.Record.{Record}
use Rattle.acceptor_log_form.specs.Text.{room_of}
use Rattle.acceptor_log_form.specs.Leaves.{kept_by_record, kept_in, proposed_by, proposed_in}
use Rattle.acceptor_log_form.specs.Order.{AreInOrder, MayComeNext}
use Rattle.rooms_seat.specs.SeatState.{SeatState}
use Rattle.farm_nodes_turn_order.specs.Ordered.{IsUnproposed}

-- the words of the node's seat in each room, where it has one
abbrev pub Seats : Type 0
Seats = ℕ → Option SeatState

-- none of them is of this room
abbrev pub NoneOf : ℕ → List Record → Type 0
NoneOf room rs = All (λ (q : Record). room_of q ≢ room) rs

-- no two of them are of one room
abbrev pub AreApart : List Record → Type 0
AreApart [] = Unit {0}
AreApart (r ∷ rs) = NoneOf (room_of r) rs × AreApart rs

-- the records of node i of n leave of each room what its seat keeps, and no seat proposes anything again
pub record StandFor (seats : Seats) (n i rooms : ℕ) (rs : List Record) : Type 0 where
  pub in_order : AreInOrder n i rooms rs
  pub kept : (m : ℕ) (s : SeatState) → seats m ≡ Some s → kept_in rs m ≡ s.node.kept
  pub unproposed : (m : ℕ) (s : SeatState) → seats m ≡ Some s → IsUnproposed (proposed_in rs m) s

-- the record is of a step that the seat of its room may take next
pub record MayPut (seats : Seats) (n i rooms : ℕ) (r : Record) : Type 0 where
  pub seat : SeatState
  pub there : seats (room_of r) ≡ Some seat
  pub low : room_of r < rooms
  pub goes : (last : ℕ) → IsUnproposed last seat → MayComeNext n i seat.node.kept last r

-- What is pending: the records stand for what the seats keep, those that are pending are in order behind them, each is of a step that
-- its seat may take next, and no two are of one room.
pub record ArePending (seats : Seats) (n i rooms : ℕ) (rs pending : List Record) : Type 0 where
  pub stand : StandFor seats n i rooms rs
  pub in_order : AreInOrder n i rooms (rs ++ pending)
  pub may : All (λ (r : Record). MayPut seats n i rooms r) pending
  pub apart : AreApart pending

-- the seat of the record's room has taken its step, which leaves what the record leaves; the others are as they were
pub record TakesStep (before after : Seats) (r : Record) : Type 0 where
  pub others : (m : ℕ) → m ≢ room_of r → after m ≡ before m
  pub was : SeatState
  pub at : before (room_of r) ≡ Some was
  pub now : SeatState
  pub is : after (room_of r) ≡ Some now
  pub step : kept_by_record was.node.kept r ≡ now.node.kept
  pub leaves : (last : ℕ) → IsUnproposed last was → last ≤ was.node.kept.started → IsUnproposed (proposed_by last r) now

-- what a front of them leaves of a room is what was there, or that with the one record of the room
abbrev pub LeftWith : List Record → List Record → ℕ → KeptPart → Type 0
LeftWith rs pending m kept =
    (kept ≡ kept_in rs m)
    ⊎ ((r : Record) × (a : List Record) × (b : List Record) × (room_of r ≡ m) × (pending ≡ a ++ r ∷ b) × (kept ≡ kept_by_record (kept_in rs m) r))
