-- Why nodes that took their turns have not met so that all functions were counted.
use Rattle.std.specs.Prelude.{◌≡◌, List, Some, None}
use Rattle.rooms_hall.specs.declared.hall.Naming as naming
use Rattle.farm_nodes_turn_node.specs.declared.farm_node.FarmNode.{FarmNode}
use Rattle.cfarm_build_faults.specs.declared.error.BuildError.{BuildError}
use Rattle.cfarm_build_faults.specs.declared.error.BuildError.TheVariants.{NoMemory, NoThread, Source, Disks, Failed, Undecided, Unlinked, Names}
use Rattle.cfarm_build_turns.specs.Nodes.{AreMissed, failed_of}

module _ {D O H : Type 0} {h : naming.Ghosts H} (ran met : List (FarmNode D O H h)) where
  -- the lowest node that failed, and then none met; else two neighbours that did not count all functions
  abbrev pub IsUnmet : BuildError → Type 0
  IsUnmet NoMemory = ⊥
  IsUnmet NoThread = ⊥
  IsUnmet (Source told) = ⊥
  IsUnmet (Disks told) = ⊥
  IsUnmet (Failed number told) = (failed_of ran ≡ Some (number, told)) × (met ≡ ran)
  IsUnmet Undecided = (failed_of ran ≡ None) × AreMissed (λ n. n.seats.items) met
  IsUnmet (Unlinked told function) = ⊥
  IsUnmet Names = ⊥
