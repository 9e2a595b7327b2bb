use Rattle.std.proofs.Common.{length}
use Rattle.oracle_order.proofs.propose.drawn.Given as goal

abbrev pub decreases-loop-draws : goal.decreases-loop-draws
decreases-loop-draws l = length l.left.items
