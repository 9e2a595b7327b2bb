-- What is known of the nodes of a tested farm of three.
use Rattle.std.specs.Prelude.{◌≡◌, ℕ, List, map, Some, slice_get}
use Rattle.acceptor_log.specs.declared.log.Log.{Log}
use Rattle.paxos_core_world.specs.Quorum.{majority_sizes}
use Rattle.farm_nodes_open_journals.specs.Journals.{header_of}
use Rattle.farm_nodes_turn_node.specs.declared.farm_node.FarmNode.{FarmNode}
use Rattle.rooms_hall.specs.declared.hall.Naming as naming

-- the third journal is that of the third node over this source
abbrev pub IsThird : {D : Type 0} → List ℕ → List (Log D) → Type 0
IsThird {D} digest logs = (log : Log D) → slice_get logs 2 ≡ Some log → log.header ≡ header_of (majority_sizes 3) digest 2

module _ {D O H : Type 0} {h : naming.Ghosts H} where
  -- the third of the nodes has it
  abbrev pub HasThird : List ℕ → List (FarmNode D O H h) → Type 0
  HasThird digest nodes = IsThird digest (map (λ n. n.log) nodes)

  -- the node is the third one
  abbrev pub IsThirdNode : List ℕ → FarmNode D O H h → Type 0
  IsThirdNode digest node = node.log.header ≡ header_of (majority_sizes 3) digest 2
