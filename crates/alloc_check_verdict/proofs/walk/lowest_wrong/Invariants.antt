use Rattle.std.proofs.Common.{◌≤◌, length}
use Rattle.alloc_check_rules.specs.Rules.{IsRightAt}
use Rattle.alloc_check_proof.specs.Allocated.{filled}
use Rattle.alloc_check_verdict.specs.Walk.{IsKnownFrom, TellsFrom}
use Rattle.alloc_check_verdict.proofs.walk.lowest_wrong.Given as goal

abbrev pub invariant-loop-n : goal.invariant-loop-n
invariant-loop-n l =
    (l.n ≤ length l.input.nodes)
    × IsKnownFrom l.input l.output l.rows l.n l.lists.items
    × TellsFrom (IsRightAt l.input l.output (filled l.input l.output l.rows)) l.n (length l.input.nodes) l.wrong

abbrev pub decreases-loop-n : goal.decreases-loop-n
decreases-loop-n l = l.n
