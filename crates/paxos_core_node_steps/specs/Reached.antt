-- The worlds that can come about: those of the runs from settled kept parts.
use Rattle.std.specs.Prelude.{◌≡◌, ℕ, List}
use Rattle.paxos_core_world.specs.KeptPart.{KeptPart}
use Rattle.paxos_core_world.specs.Quorum.{Sizes}
use Rattle.paxos_core_world.specs.Step.{Label}
use Rattle.paxos_core_world.specs.World.{World}
use Rattle.paxos_core_theorem.specs.Agreement.{IsSettledRun, world_of}

-- with quorums of these sizes a run from settled kept parts leads to this world
pub record IsReached (q : Sizes) (w : World) : Type 0 where
  pub nodes : ℕ → KeptPart
  pub steps : List Label
  pub run : IsSettledRun q nodes steps
  pub world : w ≡ world_of q.nodes nodes steps
