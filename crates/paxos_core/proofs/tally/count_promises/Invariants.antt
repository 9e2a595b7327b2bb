use Rattle.std.proofs.Common.{◌≡◌, ◌≤◌}
use Rattle.paxos_core_late_offers.specs.Notes.{has_promised}
use Rattle.paxos_core_world.specs.Quorum.{count_below}
use Rattle.paxos_core.proofs.tally.count_promises.Given as goal

-- those among the nodes so far
abbrev pub invariant-loop-node : goal.invariant-loop-node
invariant-loop-node l = (l.promised ≡ count_below l.node (has_promised l.promises)) × (l.promised ≤ l.node)
