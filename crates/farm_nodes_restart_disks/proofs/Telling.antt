-- How a refused restart leaves the node stopped, and what it tells.
use Rattle.std.proofs.Common.{◌≡◌, ℕ, Option, Some}
use Rattle.farm_nodes_turn_step.specs.declared.stop.Pending.{Pending}
use Rattle.farm_nodes_restart_seat.specs.Fault.{Fault}
use Rattle.farm_nodes_turn_node.specs.declared.halted.Halted.{Halted}
use Rattle.farm_nodes_restart_seat.specs.declared.fault.RestartFault.{RestartFault}
use Rattle.farm_nodes_restart_disks.specs.Stopped.{left_by, room_in, stopped_by, told_as}

pub one_told : {A : Type 0} {x y : A} → Some x ≡ Some y → x ≡ y
one_told same = cc

pub stopped_as : (fault : RestartFault) (halted : Option Halted) (room : ℕ) (told : Fault) (pending : Option Pending) → room ≡ room_in halted
    → told ≡ told_as fault → pending ≡ left_by halted
    → ◌≡◌ {A = Option Halted} (Some (record { room = room; halt = record { fault = told; pending = pending } })) (Some (stopped_by fault halted))
stopped_as fault halted room told pending same_room same_fault same_pending =
    λ i. Some (record { room = same_room i; halt = record { fault = same_fault i; pending = same_pending i } })
