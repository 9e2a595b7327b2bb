-- A journal while its node acts in one room.
use Rattle.std.specs.Prelude.{◌≡◌, ◌≢◌, ◌<◌, ℕ, List, ◌++◌, All}
use Rattle.durable_model.specs.declared.disk.Disk as disks
use Rattle.durable_model.specs.Moments.{LeavesOnly}
use Rattle.acceptor_log_form.specs.declared.record.Record.{Record}
use Rattle.acceptor_log_form.specs.Leaves.{kept_in, proposed_in}
use Rattle.acceptor_log_form.specs.Lists.{Begins, Between}
use Rattle.acceptor_log_writing.specs.OneOf.{Either}
use Rattle.acceptor_log_form.specs.Order.{AreInOrder}
use Rattle.acceptor_log_form.specs.Text.{room_of}
use Rattle.acceptor_log.specs.declared.log.Log.{Log}
use Rattle.acceptor_log.specs.Acknowledged.{acknowledged}
use Rattle.rooms_crash.specs.SeatState.{SeatState}
use Rattle.farm_nodes_turn_order.specs.Ordered.{AreOrdered}

-- records of so many rooms
abbrev pub AreOf : ℕ → List Record → Type 0
AreOf rooms rs = All (λ (r : Record). room_of r < rooms) rs

-- From the old journal to the new one the node's kept part in the room went from that of s to that of t, and nothing changed
-- in other rooms: the records up to `upto` stand for that, and those that are new name the room; what was in order is so with
-- them and with the pending one. A crash at any moment leaves what was acknowledged before and a beginning of what came
-- since, a crash now those records, with the pending one or without.
pub record JournalAdvances {D : Type 0} (disk : disks.Ghosts D) (old new : Log D) (room : ℕ) (s t : SeatState)
    (upto pending : List Record) : Type 0 where
  pub longer : Begins (acknowledged disk.seen old) upto
  pub kept : kept_in (acknowledged disk.seen old) room ≡ s.node.kept
      → kept_in upto room ≡ t.node.kept
  pub others : (m : ℕ) → m ≢ room → kept_in upto m ≡ kept_in (acknowledged disk.seen old) m
  pub named : (rooms : ℕ) → room < rooms → AreOf rooms (acknowledged disk.seen old) → AreOf rooms upto
  pub me : t.node.me ≡ s.node.me
  pub quorums : t.node.quorums ≡ s.node.quorums
  pub proposals : (m : ℕ) → m ≢ room → proposed_in upto m ≡ proposed_in (acknowledged disk.seen old) m
  pub order : (rooms : ℕ) → room < rooms → AreOrdered rooms room s (acknowledged disk.seen old)
      → AreOrdered rooms room t upto × AreInOrder s.node.quorums.nodes s.node.me rooms (upto ++ pending)
  pub any_moment : LeavesOnly disk.moment disk.left_since old.disk new.disk
      (Between old.header (acknowledged disk.seen old) (upto ++ pending))
  pub left : (c : List ℕ) → disk.may_leave new.disk c → Either old.header upto (upto ++ pending) c
