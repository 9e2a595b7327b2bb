use Rattle.std.proofs.Common.{◌≡◌, map, length}
use Rattle.c_checker_rules.specs.Functions as F
use Rattle.c_checker_declarations.proofs.parameters.check_parameters.Given as goal

-- what is left has the faults of the whole, and declares what the whole declares
abbrev pub invariant-loop-rest : goal.invariant-loop-rest
invariant-loop-rest l =
    (F.parameters_faults l.initial.here (map F.opened l.parameters) ≡ F.parameters_faults l.here (map F.opened l.rest))
    × (F.with_parameters l.initial.here (map F.opened l.parameters) ≡ F.with_parameters l.here (map F.opened l.rest))

abbrev pub decreases-loop-rest : goal.decreases-loop-rest
decreases-loop-rest l = length l.rest
