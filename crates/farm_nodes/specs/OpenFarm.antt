-- What a farm has when it opened.
use Rattle.std.specs.Prelude.{List}
use Rattle.std.specs.Arc.{arc_value}
use Rattle.durable_model.specs.declared.disk.Disk as disks
use Rattle.durable_pair.specs.declared.pair.Pair as pairs
use Rattle.paxos_core_world.specs.Quorum.{Sizes}
use Rattle.rooms_hall.specs.declared.hall.Naming as naming
use Rattle.farm_nodes_open_nodes.specs.OpenNodes.{HaveJournalsOn, HaveOpenRooms}
use Rattle.farm_nodes.specs.declared.farm.Farm.{Farm}

module _ {D O H : Type 0} {h : naming.Ghosts H} (disk : disks.Ghosts D) where
  -- each of its nodes has the journal on its pair of disks
  abbrev pub HasJournalsOn : pairs.Ghosts D → Sizes → List D → Farm D O H h → Type 0
  HasJournalsOn pair q given farm = HaveJournalsOn disk pair q farm.source.digest given farm.nodes.items

  -- its rooms are open from what the journals have acknowledged
  abbrev pub HasOpenRooms : Sizes → Farm D O H h → Type 0
  HasOpenRooms q farm = HaveOpenRooms disk q (arc_value farm.source.translated) farm.nodes.items
