use Rattle.linearize_check_layout.proofs.Searches.{Searching, left_over}
use Rattle.linearize_check_layout.proofs.reach.reachable.Given as goal

abbrev pub invariant-loop-node : goal.invariant-loop-node
invariant-loop-node l = Searching l.fn.function l.marks.items l.pending.items

abbrev pub decreases-loop-node : goal.decreases-loop-node
decreases-loop-node l = left_over l.marks.items l.pending.items
