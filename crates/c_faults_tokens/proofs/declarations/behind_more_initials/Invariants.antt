use Rattle.std.proofs.Common.{◌≡◌, map, length}
use Rattle.c_syntax.specs.Views.{initial_tree}
use Rattle.c_faults_tokens.specs.Declarations.{behind_more_initials}
use Rattle.c_faults_tokens.proofs.declarations.behind_more_initials.Given as goal

abbrev pub invariant-loop-left : goal.invariant-loop-left
invariant-loop-left l = behind_more_initials (map initial_tree l.left) l.rest ≡ behind_more_initials (map initial_tree l.initials) l.tokens

abbrev pub decreases-loop-left : goal.decreases-loop-left
decreases-loop-left l = length l.left
