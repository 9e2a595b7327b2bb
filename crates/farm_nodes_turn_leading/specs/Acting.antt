-- What a call that may take steps in a room leaves of the journal of a disk, and why it stops the node.
use Rattle.std.specs.Prelude.{◌≡◌, ℕ, Bool, true, Result, IfErr}
use Rattle.durable_model.specs.declared.disk.Disk as disks
use Rattle.acceptor_log.specs.declared.log.Log.{Log}
use Rattle.rooms_seat_state.specs.SeatState.{SeatState}
use Rattle.farm_nodes_turn_step.specs.declared.stop.Stop.{Stop}
use Rattle.farm_nodes_turn_step.specs.Cause.{HasCause}
use Rattle.farm_nodes_turn_step.specs.Journalled.{Journalled}
use Rattle.farm_nodes_turn_step.specs.Noted.{pending_of}

module _ {D : Type 0} (disk : disks.Ghosts D) where
  -- a journal on an honest disk that went on stands for what the node keeps behind the call
  abbrev pub LogsActs : Log D → Log D → ℕ → SeatState → SeatState → Result Bool Stop → Type 0
  LogsActs old new room s t result =
      disk.is_honest old.disk → old.going ≡ true
      → Journalled disk old new room s t result

  -- where the journal went on, a node that is stopped has a cause for it
  abbrev pub MayStopFor : Log D → Log D → ℕ → SeatState → Result Bool Stop → Type 0
  MayStopFor old new room t result =
      old.going ≡ true
      → IfErr result (λ stop. HasCause disk old new (pending_of room t stop.pending) stop.error)
