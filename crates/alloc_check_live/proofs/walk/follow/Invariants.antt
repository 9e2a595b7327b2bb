use Rattle.alloc_check_live.proofs.Walks.{Walking, left_over}
use Rattle.alloc_check_live.proofs.walk.follow.Given as goal

abbrev pub invariant-loop-node : goal.invariant-loop-node
invariant-loop-node l = Walking l.nodes l.register l.found.items l.pending.items

abbrev pub decreases-loop-node : goal.decreases-loop-node
decreases-loop-node l = left_over l.register l.found.items l.leading l.pending.items
