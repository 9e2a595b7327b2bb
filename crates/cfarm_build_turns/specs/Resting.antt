-- Nodes at rest: what is left of them without their optimisers.
use Rattle.std.specs.Prelude.{⊤, List, map}
use Rattle.rooms_hall.specs.declared.hall.Naming as naming
use Rattle.farm_nodes_turn_node.specs.declared.farm_node.FarmNode.{FarmNode}

-- a node at rest
abbrev pub Resting : Type 0 → (H : Type 0) → naming.Ghosts H → Type 0
Resting D H h = FarmNode D ⊤ H h

-- the node, at rest
abbrev pub rested : {D O H : Type 0} {h : naming.Ghosts H} → FarmNode D O H h → Resting D H h
rested n = record {
  alloc = n.alloc;
  log = n.log;
  seats = n.seats;
  program = n.program;
  oracles = tt;
  draws = n.draws;
  halted = n.halted;
  covers = n.covers;
}

-- the disks of nodes, in their order, each that of its journal
abbrev pub disks_in : {D O H : Type 0} {h : naming.Ghosts H} → List (FarmNode D O H h) → List D
disks_in nodes = map (λ n. n.log.disk) nodes
