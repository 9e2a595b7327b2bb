-- What coming back over a disk gives and leaves: the journal, or the disk and why there is none.
use Rattle.std.specs.Prelude.{◌≡◌, ◌≢◌, ◌≤◌, ◌*◌, ℕ, List, length, Option, Some, None, Result, Ok, Err}
use Rattle.durable_model.specs.Honest.{Risen}
use Rattle.acceptor_log_form.specs.declared.errors.LogError.TheVariants as journal
use Rattle.acceptor_log_form.specs.declared.header.Header.{Header}
use Rattle.acceptor_log_form.specs.declared.record.Record.{Record}
use Rattle.acceptor_log_form.specs.Order.{AreInOrder}
use Rattle.acceptor_log.specs.declared.log.Log.{Log}
use Rattle.acceptor_log.specs.Acknowledged.{acknowledged}
use Rattle.rooms_hall.specs.declared.hall.Naming as naming
use Rattle.farm_nodes_turn_step.specs.declared.stop.Pending.{Pending}
use Rattle.farm_nodes_restart_records.specs.Fours.{fours_of}
use Rattle.farm_nodes_restart_records.specs.NumberedSeat.{NumberedSeat}
use Rattle.farm_nodes_restart_records.specs.Texts.{pass_texts}
use Rattle.farm_nodes_restart_seat.specs.declared.fault.RestartFault.{RestartFault}
use Rattle.farm_nodes_restart_seat.specs.declared.fault.RestartFault.TheVariants as restart
use Rattle.farm_nodes_restart_node.specs.Returned.{HasReason, HoldsBack}
use Rattle.farm_nodes_restart_node.specs.Seats.{HaveComeBack}

-- the device's failures are counted: one more at least where that fault is told, and none where it is not
pub record CountsFailures (before now : ℕ) (told : Option RestartFault) : Type 0 where
  pub later : before ≤ now
  pub failed : told ≡ Some (restart.Journal journal.Device) → Risen before now
  pub unfailed : told ≢ Some (restart.Journal journal.Device) → now ≡ before

module _ {D F : Type 0} where
  -- the disk that was given
  abbrev pub disk_given : Result (Log D) (D × F) → D
  disk_given (Ok log) = log.disk
  disk_given (Err refused) = refused.0

  -- why the node does not come back, where it does not
  abbrev pub fault_given : Result (Log D) (D × F) → Option F
  fault_given (Ok log) = None
  fault_given (Err refused) = Some refused.1

-- the records that the journal has acknowledged are in order
abbrev pub HasInOrder : {D : Type 0} → (D → List ℕ) → Header → ℕ → Log D → Type 0
HasInOrder seen h rooms log = AreInOrder h.nodes h.node rooms (acknowledged seen log)

module _ {H : Type 0} {h : naming.Ghosts H} where
  -- over these the seats came back
  abbrev pub CameBackBy : {D : Type 0} → (D → List ℕ) → ℕ → Option Pending → List (NumberedSeat H h) → List (NumberedSeat H h) → Log D → Type 0
  CameBackBy seen room p old new log = HaveComeBack room p (acknowledged seen log) old new

  -- why the seats do not come back over these records
  abbrev pub HoldBack : Header → List (NumberedSeat H h) → ℕ → Option Pending → List Record → RestartFault → Type 0
  HoldBack header seats room p rs fault = HoldsBack pass_texts header (4 * length seats) (fours_of seats) room p rs fault

  -- why the node does not come back over a disk with these bytes
  abbrev pub StaysOut : {D : Type 0} → Header → List (NumberedSeat H h) → ℕ → Option Pending → List ℕ → D × RestartFault → Type 0
  StaysOut header seats room p bytes refused =
      HasReason pass_texts header (4 * length seats) (fours_of seats) room p bytes refused.1
