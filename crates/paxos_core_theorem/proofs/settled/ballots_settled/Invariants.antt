use Rattle.std.proofs.Common.{ℕ, ◌<◌, length}
use Rattle.paxos_core_world.specs.World.{nodes_of}
use Rattle.paxos_core_theorem.specs.Tests.{IsCovered}
use Rattle.paxos_core_theorem.proofs.settled.ballots_settled.Given as goal

abbrev pub invariant-loop-other : goal.invariant-loop-other
invariant-loop-other l = (j : ℕ) → j < l.other-index → IsCovered (length l.parts) l.node l.started (nodes_of l.parts j)
