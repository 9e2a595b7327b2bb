use Rattle.std.proofs.Common.{◌≡◌}
use Rattle.worked_tests.proofs.opened.deal_all.Given as goal

-- the next seat is that of the next node
abbrev pub invariant-loop-node : goal.invariant-loop-node
invariant-loop-node l = record { next : l.dealer.next ≡ l._node; nodes : l.dealer.opening.quorums.nodes ≡ l.nodes }
