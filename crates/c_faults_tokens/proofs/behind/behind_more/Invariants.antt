use Rattle.std.proofs.Common.{◌≡◌, map, length}
use Rattle.c_syntax.specs.Views.{expression_tree}
use Rattle.c_faults_tokens.specs.Tokens.{behind_more}
use Rattle.c_faults_tokens.proofs.behind.behind_more.Given as goal

abbrev pub invariant-loop-left : goal.invariant-loop-left
invariant-loop-left l = behind_more (map expression_tree l.left) l.rest ≡ behind_more (map expression_tree l.expressions) l.tokens

abbrev pub decreases-loop-left : goal.decreases-loop-left
decreases-loop-left l = length l.left
