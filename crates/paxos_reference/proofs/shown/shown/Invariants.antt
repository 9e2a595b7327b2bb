use Rattle.std.proofs.Common.{◌≡◌}
use Rattle.paxos_core_world.specs.World.{nodes_of, shown}
use Rattle.paxos_reference.proofs.shown.shown.Given as goal

-- the messages of the nodes so far
abbrev pub invariant-loop-node : goal.invariant-loop-node
invariant-loop-node l = l.sent.items ≡ shown l.node (nodes_of l.parts)
