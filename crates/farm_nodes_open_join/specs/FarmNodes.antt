-- What is said of a farm's nodes.
use Rattle.std.specs.Prelude.{◌≡◌, List, All}
use Rattle.std.specs.Arc.{arc_value}
use Rattle.durable_model.specs.declared.disk.Disk as disks
use Rattle.lang_base.specs.declared.program.Program.{Program}
use Rattle.rtl_language.specs.Function.{FunctionData}
use Rattle.rooms_hall.specs.declared.hall.Naming as naming
use Rattle.farm_nodes_turn_node.specs.Fours.{fours_of}
use Rattle.farm_nodes_turn_node.specs.Held.{IsSoundNode}
use Rattle.farm_nodes_turn_node.specs.declared.farm_node.FarmNode.{FarmNode}

module _ {D O H : Type 0} {h : naming.Ghosts H} where
  -- the node's journal stands for what its seats keep
  abbrev pub HasSoundJournal : disks.Ghosts D → FarmNode D O H h → Type 0
  HasSoundJournal disk node = IsSoundNode disk node.log (fours_of node.seats.items) node.halted

  -- what all of them compile is this program
  abbrev pub AllCompile : Program FunctionData → List (FarmNode D O H h) → Type 0
  AllCompile program nodes = All (λ (n : FarmNode D O H h). arc_value n.program ≡ program) nodes
