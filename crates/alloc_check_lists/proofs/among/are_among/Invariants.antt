use Rattle.std.specs.Prelude.{Contains}
use Rattle.alloc_check_lists.proofs.Each.{HoldsBelow}
use Rattle.alloc_check_lists.proofs.among.are_among.Given as goal

abbrev pub invariant-loop-other : goal.invariant-loop-other
invariant-loop-other l = HoldsBelow (Contains l.equations) l.others l.other-index
