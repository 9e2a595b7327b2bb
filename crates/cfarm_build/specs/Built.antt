-- What a build makes, and the nodes that it gives back.
use Rattle.std.specs.Prelude.{◌≡◌, ℕ, List, None, map}
use Rattle.std.specs.Global.{Vec}
use Rattle.std.specs.List.{AllByRecursion}
use Rattle.durable_model.specs.declared.disk.Disk as disks
use Rattle.durable_pair.specs.declared.pair.Pair as pairs
use Rattle.rooms_hall.specs.declared.hall.Naming as naming
use Rattle.farm_nodes_source.specs.declared.source.Source.{Source}
use Rattle.paxos_core_world.specs.Quorum.{Sizes}
use Rattle.cfarm_build_linking.specs.Built.{IsBuiltBy}
pub use Rattle.cfarm_build_turns.specs.Built.{Built}
use Rattle.cfarm_build_turns.specs.Asked.{MayBeAsked}
use Rattle.cfarm_build_turns.specs.Node.{Node, node}
use Rattle.cfarm_build_turns.specs.Nodes.{AreBack, NodesMetTwice, failed_of}
use Rattle.cfarm_build_turns.specs.FarmNode.{FarmNode}
use Rattle.cfarm_build_turns.specs.Resting.{Resting}
use Rattle.cfarm_build_turns.specs.Voted.{AreVotedFor}
use Rattle.cfarm_build.specs.Back.{AreDisksOf}

-- what is said of nodes: their journals, their seats, and what stopped them
abbrev pub nodes_seen : {D O H : Type 0} {h : naming.Ghosts H} → List (FarmNode D O H h) → List (Node D H h)
nodes_seen nodes = map (λ n. node n.log n.seats.items n.halted) nodes

-- The source is compiled by these nodes, which opened over the pairs of disks, with quorums of these sizes. None of them failed. Each two neighbours
-- met, forth and back, and all functions were counted: what every node links is one program, which keeps the meaning of the C program, and the bytes are its
-- text. What is linked was voted for: in each room of each node by an accept quorum. Each node's disk holds its journal.
pub record IsBuilt {D : Type 0} (disk : disks.Ghosts D) (pair : pairs.Ghosts D) (q : Sizes) (seed turns : ℕ) (source : Source) (given : List D)
    {H : Type 0} {h : naming.Ghosts H} (nodes : List (Resting D H h)) (built : Built) : Type 0 where
  pub begun : List (Resting D H h)
  pub ran : List (Resting D H h)
  pub back : AreBack disk pair q source given seed turns begun ran nodes
  pub going : failed_of ran ≡ None
  pub asked : AllByRecursion (MayBeAsked disk) ran
  pub twice : NodesMetTwice ran nodes
  pub voted : AllByRecursion (λ n. AreVotedFor q n.seats.items) nodes
  pub makes : IsBuiltBy source (nodes_seen nodes) built

-- the disks of nodes are given back, and this is built by these
abbrev pub IsBuiltBack : {D : Type 0} → disks.Ghosts D → pairs.Ghosts D → {H : Type 0} → naming.Ghosts H → Sizes → (seed turns : ℕ) → Source
    → (given back : List D) → Built → Type 0
IsBuiltBack disk pair h q seed turns source given back built = AreDisksOf h back (λ nodes. IsBuilt disk pair q seed turns source given nodes built)

-- the same of what is handed over
abbrev pub GivesBuilt : {D : Type 0} → disks.Ghosts D → pairs.Ghosts D → {H : Type 0} → naming.Ghosts H → Sizes → (seed turns : ℕ) → Source
    → (given back : Vec D) → Built → Type 0
GivesBuilt disk pair h q seed turns source given back built = IsBuiltBack disk pair h q seed turns source given.items back.items built
