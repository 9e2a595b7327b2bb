use Rattle.std.proofs.Common.{◌≡◌, map, length}
use Rattle.c_program.specs.Views.{term_tree}
use Rattle.c_faults.specs.Gaps.{first_gap}
use Rattle.c_meaning_machine.specs.Scopes.{variables_of}
use Rattle.c_faults_gaps.proofs.gaps.first_gap.Given as goal

-- those in front have no gap
abbrev pub invariant-loop-left : goal.invariant-loop-left
invariant-loop-left l =
    first_gap l.rest (variables_of l.scope) (map term_tree l.left) ≡ first_gap l.places (variables_of l.scope) (map term_tree l.terms)

abbrev pub decreases-loop-left : goal.decreases-loop-left
decreases-loop-left l = length l.left
