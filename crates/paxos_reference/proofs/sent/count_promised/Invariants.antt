use Rattle.std.proofs.Common.{◌≡◌, ◌≤◌}
use Rattle.paxos_core_world.specs.Quorum.{count_below}
use Rattle.paxos_reference.specs.Tests.{has_promised}
use Rattle.paxos_reference.proofs.sent.count_promised.Given as goal

-- those among the nodes so far
abbrev pub invariant-loop-node : goal.invariant-loop-node
invariant-loop-node l = (l.promised ≡ count_below l.node (has_promised l.sent l.ballot l.most)) × (l.promised ≤ l.node)
