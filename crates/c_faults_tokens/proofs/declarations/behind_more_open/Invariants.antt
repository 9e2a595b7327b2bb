use Rattle.std.proofs.Common.{◌≡◌, length}
use Rattle.c_faults_tokens.specs.Declarations.{behind_more_open}
use Rattle.c_faults_tokens.proofs.declarations.behind_more_open.Given as goal

abbrev pub invariant-loop-left : goal.invariant-loop-left
invariant-loop-left l = behind_more_open l.left l.rest ≡ behind_more_open l.parameters l.tokens

abbrev pub decreases-loop-left : goal.decreases-loop-left
decreases-loop-left l = length l.left
