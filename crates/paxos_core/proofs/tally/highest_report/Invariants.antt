use Rattle.std.proofs.Common.{◌≡◌}
use Rattle.paxos_core_late_offers.specs.Notes.{highest_below}
use Rattle.paxos_core.proofs.tally.highest_report.Given as goal

-- of the nodes so far
abbrev pub invariant-loop-node : goal.invariant-loop-node
invariant-loop-node l = l.highest ≡ highest_below l.node l.promises
