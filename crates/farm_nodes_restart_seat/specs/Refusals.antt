-- The numbers that a user is shown beside the names of refusals, and what a journal's answer is told as.
use Rattle.std.specs.Prelude.{ℕ}
use Rattle.acceptor_log_form.specs.declared.errors.LogError.{LogError}
use Rattle.acceptor_log_form.specs.declared.errors.LogError.TheVariants as log
use Rattle.acceptor_log_form.specs.Refusals as journal
use Rattle.farm_nodes_restart_seat.specs.declared.fault.RestartFault.{RestartFault}
use Rattle.farm_nodes_restart_seat.specs.declared.fault.RestartFault.TheVariants.{NoMemory, Journal, OtherRecords, CellRefused}

abbrev pub restart_fault : LogError → RestartFault
restart_fault log.NoMemory = NoMemory
restart_fault log.Device = Journal log.Device
restart_fault log.NotAJournal = Journal log.NotAJournal
restart_fault log.BadRecord = Journal log.BadRecord
restart_fault log.OtherSource = Journal log.OtherSource
restart_fault log.Stopped = Journal log.Stopped
restart_fault log.Full = Journal log.Full

abbrev pub number_of : RestartFault → ℕ
number_of NoMemory = 1
number_of (Journal e) = journal.number_of e
number_of OtherRecords = 521
number_of CellRefused = 522
