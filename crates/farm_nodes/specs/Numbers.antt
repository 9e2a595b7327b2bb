-- The number of why a farm does not open.
use Rattle.std.specs.Prelude.{ℕ}
use Rattle.acceptor_log_form.specs.Refusals as journals
use Rattle.farm_nodes_open_nodes.specs.RoomFault.{RoomFault}
use Rattle.farm_nodes_open_nodes.specs.RoomFault.TheVariants as rooms
use Rattle.farm_nodes_open_nodes.specs.OpenFault.{OpenFault}
use Rattle.farm_nodes_open_nodes.specs.OpenFault.TheVariants.{NoMemory, Journal, Refused, Room}
use Rattle.farm_nodes_source.specs.Told as texts
use Rattle.farm_nodes.specs.declared.error.FarmError.{FarmError}
use Rattle.farm_nodes.specs.declared.error.FarmError.TheVariants.{Source, Disks}

-- a hall that has given all its numbers is told as one without memory: 2^64 of them are given
abbrev pub room_number_of : RoomFault → ℕ
room_number_of rooms.NoMemory = 1
room_number_of rooms.Spent = 1
room_number_of rooms.Unsettled = 510
room_number_of rooms.CellRefused = 511

abbrev pub disks_number_of : OpenFault → ℕ
disks_number_of NoMemory = 1
disks_number_of (Journal node fault) = journals.number_of fault
disks_number_of (Refused node) = 301
disks_number_of (Room room fault) = room_number_of fault

abbrev pub number_of : FarmError → ℕ
number_of (Source fault) = texts.number_of fault
number_of (Disks fault) = disks_number_of fault
