-- A node that may be asked for turns.
use Rattle.durable_model.specs.declared.disk.Disk as disks
use Rattle.rooms_hall.specs.declared.hall.Naming as naming
use Rattle.farm_nodes_turn_function.specs.Fours.{fours_of}
use Rattle.farm_nodes_turn_node.specs.declared.farm_node.FarmNode.{FarmNode}
use Rattle.farm_nodes_turn_node.specs.Held.{IsSoundNode}
use Rattle.farm_nodes_turn_node.specs.Waiting.{IsWaiting}

-- its journal stands for what its seats keep, and what it has not done may still be done
abbrev pub MayBeAsked : {D : Type 0} → disks.Ghosts D → {O H : Type 0} {h : naming.Ghosts H} → FarmNode D O H h → Type 0
MayBeAsked disk node =
    IsSoundNode disk node.log (fours_of node.seats.items) node.halted
    × IsWaiting node.seats.items node.halted
