-- What coming back over a pair of disks leaves of it, and why a node does not come back.
use Rattle.std.specs.Prelude.{ℕ, ◌*◌, List, length, Option, Result, IfErr}
use Rattle.durable_model.specs.declared.disk.Disk as disks
use Rattle.durable_model.specs.Moments.{LeavesOnly}
use Rattle.durable_pair.specs.declared.pair.Pair as pairs
use Rattle.acceptor_log_form.specs.declared.header.Header.{Header}
use Rattle.rooms_hall.specs.declared.hall.Naming as naming
use Rattle.farm_nodes_turn_step.specs.declared.stop.Pending.{Pending}
use Rattle.farm_nodes_restart_node.specs.Fours.{fours_of}
use Rattle.farm_nodes_restart_node.specs.Texts.{pass_texts}
use Rattle.farm_nodes_restart_node.specs.NumberedSeat.{NumberedSeat}
use Rattle.farm_nodes_restart_seat.specs.declared.fault.RestartFault.{RestartFault}
use Rattle.farm_nodes_open_old.specs.OnPairs.{MayShow}
use Rattle.farm_nodes_restart_disks.specs.Cause.{HasCauseOn}

module _ {P : Type 0} (disk : disks.Ghosts P) (pair : pairs.Ghosts P) where
  -- a crash at any moment meanwhile shows what it might have shown of the pair before
  abbrev pub ShowsOnly : P → P → Type 0
  ShowsOnly given now = LeavesOnly disk.moment disk.left_since given now (MayShow disk pair given)

  -- where both disks are honest, what stands on them is the cause that the node does not come back
  abbrev pub StaysOutOf : {A H : Type 0} {h : naming.Ghosts H} → P → Header → List (NumberedSeat H h) → ℕ → Option Pending
      → Result A (P × RestartFault) → Type 0
  StaysOutOf given header seats room p result =
      pair.is_whole given
      → IfErr result (λ refused. HasCauseOn pass_texts header (4 * length seats) (fours_of seats) room p (disk.seen given, pair.old_seen given) refused.1)
