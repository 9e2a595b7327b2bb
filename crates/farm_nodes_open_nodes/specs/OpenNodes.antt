-- What a farm's nodes have when they opened.
use Rattle.std.specs.Prelude.{ℕ, List, length, map}
use Rattle.durable_model.specs.declared.disk.Disk as disks
use Rattle.durable_pair.specs.declared.pair.Pair as pairs
use Rattle.lang_base.specs.declared.program.Program.{Program}
use Rattle.rtl_language.specs.Function.{FunctionData}
use Rattle.paxos_core_world.specs.Quorum.{Sizes}
use Rattle.rooms_hall.specs.declared.hall.Naming as naming
use Rattle.farm_nodes_open_join.specs.FarmNode.{FarmNode}
use Rattle.farm_nodes_open_nodes.specs.Back.{AreJournalsOn}
use Rattle.farm_nodes_open_nodes.specs.Opened.{AreOpenFromJournals}

module _ {D O H : Type 0} {h : naming.Ghosts H} (disk : disks.Ghosts D) where
  -- each has the journal on its pair of disks
  abbrev pub HaveJournalsOn : pairs.Ghosts D → Sizes → List ℕ → List D → List (FarmNode D O H h) → Type 0
  HaveJournalsOn pair q digest given nodes = AreJournalsOn disk pair q digest given (map (λ n. n.log) nodes)

  -- the rooms of the program's functions are open from what the journals have acknowledged
  abbrev pub HaveOpenRooms : Sizes → Program FunctionData → List (FarmNode D O H h) → Type 0
  HaveOpenRooms q program nodes =
      AreOpenFromJournals disk q (length program.functions) (map (λ n. n.log) nodes) (map (λ n. n.seats.items) nodes)
