-- Why a node halted, and what its journal then holds.
use Rattle.std.specs.Prelude.{◌≡◌, ◌≢◌, ℕ, Bool, List, [], ◌++◌, Option, Some, None, Result, Ok, Err}
use Rattle.durable_model.specs.declared.disk.Disk as disks
use Rattle.acceptor_log_form.specs.declared.errors.LogError.{LogError}
use Rattle.acceptor_log_form.specs.declared.errors.LogError.TheVariants as log
use Rattle.acceptor_log_form.specs.declared.record.Record.{Record}
use Rattle.acceptor_log_form.specs.Refusals as journal
use Rattle.acceptor_log.specs.declared.log.Log.{Log}
use Rattle.acceptor_log.specs.Acknowledged.{acknowledged}
use Rattle.farm_nodes_turn_step.specs.SeatState.{SeatState}
use Rattle.farm_nodes_turn_step.specs.declared.stop.Pending.{Pending}
use Rattle.farm_nodes_turn_step.specs.JournalAdvances.{JournalAdvances}
use Rattle.farm_nodes_turn_step.specs.Cause.{HasCause}
use Rattle.farm_nodes_turn_step.specs.Journalled.{HasGrown}
use Rattle.farm_nodes_turn_step.specs.Noted.{pending_of}
use Rattle.farm_nodes_turn_offer.specs.Told.{TellNew}
use Rattle.farm_nodes_turn_offer.specs.declared.halt.Fault.{Fault}
use Rattle.farm_nodes_turn_offer.specs.declared.halt.Fault.TheVariants.{NoMemory, Journal, TooManyRegisters, OtherRecords, CellRefused}
use Rattle.farm_nodes_turn_offer.specs.declared.halt.Halt.{Halt}

-- the fault that a journal's answer is
abbrev pub fault_by_journal : LogError → Fault
fault_by_journal log.NoMemory = NoMemory
fault_by_journal log.Device = Journal log.Device
fault_by_journal log.NotAJournal = Journal log.NotAJournal
fault_by_journal log.BadRecord = Journal log.BadRecord
fault_by_journal log.OtherSource = Journal log.OtherSource
fault_by_journal log.Stopped = Journal log.Stopped
fault_by_journal log.Full = Journal log.Full

-- the number that a user is shown
abbrev pub number_of : Fault → ℕ
number_of NoMemory = 1
number_of (Journal e) = journal.number_of e
number_of TooManyRegisters = 110
number_of OtherRecords = 521
number_of CellRefused = 522

-- the record that a halted node may have put down of what it has not done
abbrev pub left_over : ℕ → SeatState → Option Pending → List Record
left_over room s None = []
left_over room s (Some p) = pending_of room s p

-- The records up to some place stand for what the node keeps, and behind them may stand those that are pending. An offer
-- that was made is told, by a text that is so.
abbrev pub HasLeft : {D : Type 0} → (List ℕ → Type 0) → disks.Ghosts D → Log D → Log D → ℕ → SeatState → SeatState → List Record → Type 0
HasLeft Is disk old new room s t pending =
    (upto : List Record) × JournalAdvances disk old new room s t upto pending
    × TellNew Is room s t (acknowledged disk.seen old) upto

-- What a call leaves of the journal, by its result.
abbrev pub Recorded : {D : Type 0} → (List ℕ → Type 0) → disks.Ghosts D → Log D → Log D → ℕ → SeatState → SeatState → Result Bool Halt → Type 0
Recorded Is disk old new room s t (Ok moved) =
    HasGrown disk old new room s t moved
    × TellNew Is room s t (acknowledged disk.seen old) (acknowledged disk.seen new)
Recorded Is disk old new room s t (Err halt) =
    HasLeft Is disk old new room s t (left_over room t halt.pending)

-- Why it halted: memory was refused, the journal refused the pending record for a cause, the input is too large, or the
-- cell refused an offer, which is pending. Other records are told by a restart alone.
abbrev pub HasHaltCause : {D : Type 0} → disks.Ghosts D → Type 0 → Log D → Log D → List Record → Fault → Type 0
HasHaltCause disk TooLarge old new pending NoMemory = Unit {0}
HasHaltCause disk TooLarge old new pending (Journal e) = HasCause disk old new pending e
HasHaltCause disk TooLarge old new pending TooManyRegisters = TooLarge
HasHaltCause disk TooLarge old new pending OtherRecords = ⊥
HasHaltCause disk TooLarge old new pending CellRefused = pending ≢ []

-- so it is of a call that halted over a disk, in a room with this seat
abbrev pub HaltsFor : {D : Type 0} → disks.Ghosts D → Type 0 → Log D → Log D → ℕ → SeatState → Halt → Type 0
HaltsFor disk TooLarge old new room s halt =
    HasHaltCause disk TooLarge old new (left_over room s halt.pending) halt.fault

-- where the cell refused the offer its record is put down
abbrev pub IsPutDown : {D : Type 0} → (D → List ℕ) → Log D → Log D → ℕ → SeatState → Halt → Type 0
IsPutDown seen old new room s halt =
    halt.fault ≡ CellRefused → acknowledged seen new ≡ acknowledged seen old ++ left_over room s halt.pending
