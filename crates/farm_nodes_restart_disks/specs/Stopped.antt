-- What a node had not done when it was stopped, and how a refused restart leaves it stopped.
use Rattle.std.specs.Prelude.{ℕ, Option, Some, None}
use Rattle.farm_nodes_turn_step.specs.declared.stop.Pending.{Pending}
use Rattle.farm_nodes_restart_seat.specs.Fault.{Fault}
use Rattle.farm_nodes_restart_seat.specs.Fault.TheVariants as fault
use Rattle.farm_nodes_turn_node.specs.declared.halted.Halted.{Halted}
use Rattle.farm_nodes_restart_seat.specs.declared.fault.RestartFault.{RestartFault}
use Rattle.farm_nodes_restart_seat.specs.declared.fault.RestartFault.TheVariants.{NoMemory, Journal, OtherRecords, CellRefused}

-- the room in which it was stopped; of a node that is not stopped nothing is pending, in room 0
abbrev pub room_in : Option Halted → ℕ
room_in None = 0
room_in (Some h) = h.room

-- what it has not done there
abbrev pub left_by : Option Halted → Option Pending
left_by None = None
left_by (Some h) = h.halt.pending

-- the fault that a node tells of a refused restart, by the same number
abbrev pub told_as : RestartFault → Fault
told_as NoMemory = fault.NoMemory
told_as (Journal e) = fault.Journal e
told_as OtherRecords = fault.OtherRecords
told_as CellRefused = fault.CellRefused

-- stopped by this fault, with the same left to do
abbrev pub stopped_by : RestartFault → Option Halted → Halted
stopped_by f halted = record { room = room_in halted; halt = record { fault = told_as f; pending = left_by halted } }
