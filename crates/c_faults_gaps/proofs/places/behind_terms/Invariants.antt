use Rattle.std.proofs.Common.{◌≡◌, map, length}
use Rattle.c_program.specs.Views.{term_tree}
use Rattle.c_faults.specs.Places.{behind_terms}
use Rattle.c_faults_gaps.proofs.places.behind_terms.Given as goal

abbrev pub invariant-loop-left : goal.invariant-loop-left
invariant-loop-left l = behind_terms (map term_tree l.left) l.rest ≡ behind_terms (map term_tree l.terms) l.places

abbrev pub decreases-loop-left : goal.decreases-loop-left
decreases-loop-left l = length l.left
