-- The journals and the seats of a farm's nodes.
use Rattle.std.specs.Prelude.{◌≡◌, ℕ, ◌*◌, true, List, length, Some, slice_get}
use Rattle.std.specs.Global.{Vec}
use Rattle.durable_model.specs.declared.disk.Disk as disks
use Rattle.acceptor_log.specs.Acknowledged.{acknowledged, IsSound}
use Rattle.acceptor_log.specs.declared.log.Log.{Log}
use Rattle.farm_nodes_turn_node.specs.JournalAdvances.{AreOf}
use Rattle.acceptor_log_form.specs.Order.{AreInOrder}
use Rattle.acceptor_log_form.specs.declared.record.Record.{Record}
use Rattle.rooms_hall.specs.declared.hall.Naming as naming
use Rattle.farm_nodes_turn_node.specs.Held.{AreOfRuns, AreSeatsOf, AreUnproposed}
use Rattle.farm_nodes_turn_node.specs.Fours.{Four, fours_of}
use Rattle.farm_nodes_turn_node.specs.Leaves.{Leave}
use Rattle.farm_nodes_turn_node.specs.NumberedSeat.{NumberedSeat}
use Rattle.farm_nodes_turn_node.specs.Texts.{Texts, pass_texts}

-- The journal goes on, and the seats are its node's, each of its run; what it has acknowledged stands for what they keep and tells their offers, names
-- no room but theirs, and is in order.
pub record IsHeld {D X1 X2 X3 X4 : Type 0} (texts : Texts X1 X2 X3 X4) (disk : disks.Ghosts D)
    (log : Log D) (seats : List (Four X1 X2 X3 X4)) : Type 0 where
  pub sound : IsSound disk log
  pub going : log.going ≡ true
  pub own : AreSeatsOf log.header seats
  pub of_runs : AreOfRuns seats
  pub leave : disk.is_honest log.disk → Leave texts seats (acknowledged disk.seen log)
  pub named : disk.is_honest log.disk → AreOf (4 * length seats) (acknowledged disk.seen log)
  pub in_order : disk.is_honest log.disk → AreInOrder log.header.nodes log.header.node (4 * length seats) (acknowledged disk.seen log)
  pub unproposed : disk.is_honest log.disk → AreUnproposed seats (acknowledged disk.seen log)

-- so it is of each node's journal and seats
pub record AreHeld {J S D X1 X2 X3 X4 : Type 0} (texts : Texts X1 X2 X3 X4) (disk : disks.Ghosts D)
    (log_of : J → Log D) (fours : S → List (Four X1 X2 X3 X4)) (journals : List J) (seats : List S) : Type 0 where
  pub count : length seats ≡ length journals
  pub each : (i : ℕ) (j : J) (s : S) → slice_get journals i ≡ Some j → slice_get seats i ≡ Some s
      → IsHeld texts disk (log_of j) (fours s)

-- the same of journals beside their records, with the texts of the passes' offers as they are
abbrev pub AreHeldOn : {D H : Type 0} {h : naming.Ghosts H} → disks.Ghosts D → List (Log D × Vec Record) → List (Vec (NumberedSeat H h)) → Type 0
AreHeldOn {D} {H} {h} disk journals seats = AreHeld pass_texts disk
    (λ (j : Log D × Vec Record). j.0) (λ (s : Vec (NumberedSeat H h)). fours_of s.items) journals seats
