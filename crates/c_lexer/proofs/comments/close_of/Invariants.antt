use Rattle.std.proofs.Common.{◌-◌, ◌≤◌, length}
use Rattle.c_lexer.specs.Closings.{NoClose}
use Rattle.c_lexer.proofs.comments.close_of.Given as goal

abbrev pub invariant-loop-n : goal.invariant-loop-n
invariant-loop-n l = record { in_range : l.n ≤ length l.text; none : NoClose l.text l.n }

abbrev pub decreases-loop-n : goal.decreases-loop-n
decreases-loop-n l = length l.text - l.n
