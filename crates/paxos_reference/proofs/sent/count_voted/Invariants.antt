use Rattle.std.proofs.Common.{◌≡◌, ◌≤◌}
use Rattle.paxos_core_world.specs.Quorum.{count_below}
use Rattle.paxos_reference.specs.Tests.{has_voted}
use Rattle.paxos_reference.proofs.sent.count_voted.Given as goal

-- those among the nodes so far
abbrev pub invariant-loop-node : goal.invariant-loop-node
invariant-loop-node l = (l.voted ≡ count_below l.node (has_voted l.sent l.ballot l.value)) × (l.voted ≤ l.node)
