-- The records of a room in order, as its seat puts them down.
use Rattle.std.specs.Prelude.{◌≡◌, ◌≢◌, ℕ, false, List, Some}
use Rattle.acceptor_log_form.specs.declared.record.Record.{Record}
use Rattle.acceptor_log_form.specs.Leaves.{kept_in, proposed_in}
use Rattle.acceptor_log_form.specs.Order.{AreInOrder}
use Rattle.rooms_seat.specs.SeatState.{SeatState}

-- under the ballot under which the node may still propose it has not proposed last
abbrev pub IsUnproposed : ℕ → SeatState → Type 0
IsUnproposed last s = (b : ℕ) → s.node.ballot ≡ Some b → s.node.proposed ≡ false → last ≢ b

-- The records of the seat's node, of so many rooms, are in order: they leave of this room what the seat keeps, and the seat
-- proposes nothing again.
pub record AreOrdered (rooms room : ℕ) (s : SeatState) (rs : List Record) : Type 0 where
  pub in_order : AreInOrder s.node.quorums.nodes s.node.me rooms rs
  pub kept : kept_in rs room ≡ s.node.kept
  pub unproposed : IsUnproposed (proposed_in rs room) s

-- two seats of one node, in rooms with the same quorums
pub record IsOfOneNode (s t : SeatState) : Type 0 where
  pub me : t.node.me ≡ s.node.me
  pub quorums : t.node.quorums ≡ s.node.quorums
