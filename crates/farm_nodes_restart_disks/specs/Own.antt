-- Why a node is refused over what a crash left of its own disk.
use Rattle.acceptor_log_form.specs.declared.errors.LogError.{LogError}
use Rattle.acceptor_log_form.specs.declared.errors.LogError.TheVariants as log
use Rattle.farm_nodes_restart_seat.specs.declared.fault.RestartFault.{RestartFault}
use Rattle.farm_nodes_restart_seat.specs.declared.fault.RestartFault.TheVariants.{NoMemory, Journal, OtherRecords, CellRefused}

-- the device failed
abbrev pub IsDevice : LogError → Type 0
IsDevice log.NoMemory = ⊥
IsDevice log.Device = Unit {0}
IsDevice log.NotAJournal = ⊥
IsDevice log.BadRecord = ⊥
IsDevice log.OtherSource = ⊥
IsDevice log.Stopped = ⊥
IsDevice log.Full = ⊥

-- memory was refused, the device failed, or a cell refused an offer: the bytes are a journal of the node's, its records are in order, and
-- they are those of what its seats keep
abbrev pub IsOwnFault : RestartFault → Type 0
IsOwnFault NoMemory = Unit {0}
IsOwnFault (Journal e) = IsDevice e
IsOwnFault OtherRecords = ⊥
IsOwnFault CellRefused = Unit {0}
