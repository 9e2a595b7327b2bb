use Rattle.std.proofs.Common.{◌≡◌}
use Rattle.c_faults_gaps.proofs.Lists.{behind_from}
use Rattle.c_faults_gaps.proofs.places.+walking.Given as goal

abbrev pub invariant-behind_actions-loop-action : goal.invariant-behind_actions-loop-action
invariant-behind_actions-loop-action l = behind_from l.action-index l.actions l.rest ≡ behind_from 0 l.actions l.places
