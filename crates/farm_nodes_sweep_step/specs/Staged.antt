-- What a node is about to do in a room, and what its doing it leaves.
use Rattle.std.specs.Prelude.{◌≡◌, ℕ, ◌≤◌, Bool, [], ◌∷◌}
use Rattle.acceptor_log_form.specs.declared.record.Record.{Record}
use Rattle.acceptor_log_form.specs.Text.{room_of}
use Rattle.acceptor_log_form.specs.Leaves.{kept_by_record, proposed_by}
use Rattle.acceptor_log_form.specs.Order.{MayComeNext}
use Rattle.rooms_crash.specs.SeatState.{SeatState}
use Rattle.rooms_crash.specs.Would.{would, IsAmong}
use Rattle.farm_nodes_turn_order.specs.Ordered.{IsUnproposed}
use Rattle.farm_nodes_turn_order.specs.Recorded.{records_of}
use Rattle.farm_nodes_turn_step.specs.Quiet.{HasHeard}
use Rattle.farm_nodes_sweep_step.specs.declared.staging.Staged.{Staged}
use Rattle.farm_nodes_sweep_step.specs.Next.{IsNext}

-- its node has looked at words: it may have learned, and keeps what it kept
pub record HasLooked (old new : SeatState) : Type 0 where
  pub heard : HasHeard old new
  pub kept : new.node.kept ≡ old.node.kept
  pub proposed : new.node.proposed ≡ old.node.proposed

-- the record is of the room, and goes on from what the seat keeps
pub record MayStep (room : ℕ) (s : SeatState) (r : Record) : Type 0 where
  pub own : room_of r ≡ room
  pub goes : (last : ℕ) → IsUnproposed last s → MayComeNext s.node.quorums.nodes s.node.me s.node.kept last r

-- from s to t the seat has taken the step of this record of the room: it keeps what the record leaves, and proposes nothing again
pub record Steps (room : ℕ) (s t : SeatState) (r : Record) : Type 0 where
  pub own : room_of r ≡ room
  pub kept : kept_by_record s.node.kept r ≡ t.node.kept
  pub me : t.node.me ≡ s.node.me
  pub quorums : t.node.quorums ≡ s.node.quorums
  pub leaves : (last : ℕ) → IsUnproposed last s → last ≤ s.node.kept.started → IsUnproposed (proposed_by last r) t

-- What is staged is what the node does next, asked of a node of the room; the record is of that, and may be put down.
pub record IsStaged (room : ℕ) (starts : Bool) (s : SeatState) (staged : Staged) : Type 0 where
  pub next : IsNext starts s staged.act
  pub among : IsAmong s.node.quorums.nodes staged.act
  pub entry : records_of room (would s staged.act) ≡ staged.entry ∷ []
  pub may : MayStep room s staged.entry
