-- What nodes may have kept: what a run of the protocol from a settled opening leaves, as a crash of all of them may.
use Rattle.std.specs.Prelude.{◌≡◌, ℕ, ◌<◌, List}
use Rattle.std.specs.Global.{Vec}
use Rattle.paxos_core_world.specs.KeptPart.{KeptPart}
use Rattle.paxos_core_world.specs.Quorum.{Sizes}
use Rattle.paxos_core_world.specs.World.{World, nodes_of}
use Rattle.paxos_core_node_steps.specs.Reached.{IsReached}
use Rattle.farm_nodes_turn_passes.specs.declared.which.Which.{Which}
use Rattle.farm_nodes_turn_passes.specs.Numbers.{room_at}
use Rattle.farm_nodes_open_numbers.specs.Kept.{kept_of}

-- the kept parts of a room are those of a world to which a run of its nodes leads, with quorums of these sizes
pub record AreLeft (q : Sizes) (parts : List KeptPart) : Type 0 where
  pub world : World
  pub reached : IsReached q world
  pub same : (i : ℕ) → i < q.nodes → world.nodes i ≡ nodes_of parts i

-- so they are in each room of so many functions
abbrev pub AreLeftIn : Sizes → List (Vec KeptPart) → ℕ → Type 0
AreLeftIn q nodes functions = (f : ℕ) (pass : Which) → f < functions → AreLeft q (kept_of nodes (room_at f pass))
