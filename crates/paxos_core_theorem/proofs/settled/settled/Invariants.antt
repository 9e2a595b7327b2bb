use Rattle.std.proofs.Common.{ℕ, ◌<◌}
use Rattle.paxos_core_world.specs.World.{nodes_of}
use Rattle.paxos_core_theorem.specs.Tests.{NodeSettled}
use Rattle.paxos_core_theorem.proofs.settled.settled.Given as goal

abbrev pub invariant-loop-node : goal.invariant-loop-node
invariant-loop-node l = (i : ℕ) → i < l.node → NodeSettled l.quorums (nodes_of l.parts) i
