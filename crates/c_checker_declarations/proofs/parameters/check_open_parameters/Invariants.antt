use Rattle.std.proofs.Common.{◌≡◌, length}
use Rattle.c_checker_rules.specs.Functions as F
use Rattle.c_checker_declarations.proofs.parameters.check_open_parameters.Given as goal

-- what is left has the faults of the whole, and declares what the whole declares
abbrev pub invariant-loop-rest : goal.invariant-loop-rest
invariant-loop-rest l =
    (F.parameters_faults l.initial.here l.parameters ≡ F.parameters_faults l.here l.rest)
    × (F.with_parameters l.initial.here l.parameters ≡ F.with_parameters l.here l.rest)

abbrev pub decreases-loop-rest : goal.decreases-loop-rest
decreases-loop-rest l = length l.rest
