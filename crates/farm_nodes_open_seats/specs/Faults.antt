-- What is told of what is refused.
use Rattle.std.specs.Prelude.{ℕ}
use Rattle.acceptor_log_form.specs.declared.errors.LogError.{LogError}
use Rattle.acceptor_log_form.specs.declared.errors.LogError.TheVariants as log
use Rattle.farm_nodes_open_rooms.specs.RoomFault.{RoomFault}
use Rattle.farm_nodes_open_rooms.specs.RoomFault.TheVariants as room
use Rattle.farm_nodes_open_stored.specs.RecordFault.{RecordFault}
use Rattle.farm_nodes_open_stored.specs.RecordFault.TheVariants as entry
use Rattle.farm_nodes_open_seats.specs.declared.fault.OpenFault.{OpenFault}
use Rattle.farm_nodes_open_seats.specs.declared.fault.OpenFault.TheVariants.{NoMemory, Journal, Refused, Room}

-- of the journal of a node
abbrev pub fault_of_journal : ℕ → LogError → OpenFault
fault_of_journal node log.NoMemory = NoMemory
fault_of_journal node log.Device = Journal node log.Device
fault_of_journal node log.NotAJournal = Journal node log.NotAJournal
fault_of_journal node log.BadRecord = Journal node log.BadRecord
fault_of_journal node log.OtherSource = Journal node log.OtherSource
fault_of_journal node log.Stopped = Journal node log.Stopped
fault_of_journal node log.Full = Journal node log.Full

-- of what stands in it
abbrev pub fault_of_records : ℕ → RecordFault → OpenFault
fault_of_records node entry.NoMemory = NoMemory
fault_of_records node entry.BadRecord = Journal node log.BadRecord
fault_of_records node entry.Refused = Refused node

-- of a room
abbrev pub fault_of_room : ℕ → RoomFault → OpenFault
fault_of_room number room.NoMemory = NoMemory
fault_of_room number room.Unsettled = Room number room.Unsettled
fault_of_room number room.CellRefused = Room number room.CellRefused
fault_of_room number room.Spent = Room number room.Spent
