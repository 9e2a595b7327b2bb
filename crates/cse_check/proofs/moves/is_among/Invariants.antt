use Rattle.cse_check.proofs.Among.{IsNoneOf}
use Rattle.cse_check.proofs.moves.is_among.Given as goal

abbrev pub invariant-loop-other : goal.invariant-loop-other
invariant-loop-other l = IsNoneOf l.equations l.equation l.other-index
