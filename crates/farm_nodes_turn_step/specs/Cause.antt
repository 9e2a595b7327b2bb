-- Why a node was stopped.
use Rattle.std.specs.Prelude.{◌≡◌, ◌<◌, ℕ, List, [], ◌∷◌}
use Rattle.durable_model.specs.declared.disk.Disk as disks
use Rattle.durable_model.specs.Honest.{Risen}
use Rattle.acceptor_log_form.specs.declared.errors.LogError.{LogError}
use Rattle.acceptor_log_form.specs.declared.errors.LogError.TheVariants.{NoMemory, Device, NotAJournal, BadRecord}
use Rattle.acceptor_log_form.specs.declared.errors.LogError.TheVariants.{OtherSource, Stopped, Full}
use Rattle.acceptor_log_form.specs.declared.record.Record.{Record}
use Rattle.acceptor_log.specs.declared.log.Log.{Log}
use Rattle.acceptor_log.specs.Acknowledged.{file_with}
use Rattle.rooms_crash.specs.SeatState.{SeatState}
use Rattle.farm_nodes_turn_step.specs.declared.stop.Stop.{Stop}
use Rattle.farm_nodes_turn_step.specs.Noted.{pending_of}

-- there is no room for the pending record: a journal's file has at most 4,294,967,295 bytes
pub record IsFull {D : Type 0} (log : Log D) (pending : List Record) : Type 0 where
  pub entry : Record
  pub one : pending ≡ entry ∷ []
  pub over : 4294967295 < file_with log entry

-- The device failed, the file is full, or memory was refused; of a journal that went on there is no other cause.
abbrev pub HasCause : {D : Type 0} → disks.Ghosts D → Log D → Log D → List Record → LogError → Type 0
HasCause disk old new pending NoMemory = Unit {0}
HasCause disk old new pending Device = Risen (disk.faults old.disk) (disk.faults new.disk)
HasCause disk old new pending Full = disk.is_honest old.disk → IsFull new pending
HasCause disk old new pending NotAJournal = ⊥
HasCause disk old new pending BadRecord = ⊥
HasCause disk old new pending OtherSource = ⊥
HasCause disk old new pending Stopped = ⊥

-- so it is of a call that was stopped over a disk, in a room with this seat
abbrev pub StopsFor : {D : Type 0} → disks.Ghosts D → Log D → Log D → ℕ → SeatState → Stop → Type 0
StopsFor disk old new room s stop = HasCause disk old new (pending_of room s stop.pending) stop.error
