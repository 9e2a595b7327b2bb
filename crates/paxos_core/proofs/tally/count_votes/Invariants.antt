use Rattle.std.proofs.Common.{◌≡◌, ◌≤◌}
use Rattle.paxos_core_late_offers.specs.Notes.{has_voted}
use Rattle.paxos_core_world.specs.Quorum.{count_below}
use Rattle.paxos_core.proofs.tally.count_votes.Given as goal

-- those among the nodes so far
abbrev pub invariant-loop-node : goal.invariant-loop-node
invariant-loop-node l = (l.voted ≡ count_below l.node (has_voted l.votes l.ballot)) × (l.voted ≤ l.node)
