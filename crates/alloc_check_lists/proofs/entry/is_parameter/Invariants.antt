use Rattle.std.proofs.Common.{◌≡◌}
use Rattle.alloc_check_fill.specs.Pairs.{equations_of}
use Rattle.alloc_check_lists.proofs.Each.{HoldsBelow}
use Rattle.alloc_check_lists.proofs.entry.is_parameter.Given as goal

abbrev pub invariant-loop-k : goal.invariant-loop-k
invariant-loop-k l = HoldsBelow (λ f. ¬ (f ≡ l.equation)) (equations_of l.registers l.locations) l.k
