use Rattle.std.proofs.Common.{◌≡◌, take, map}
use Rattle.c_program.specs.Views.{action_tree}
use Rattle.cminor_syntax.specs.Views.{statement_tree}
use Rattle.cminor_lowering.specs.Actions.{low_action}
use Rattle.cminor.proofs.actions.+lowering.Given as goal

abbrev pub invariant-lower_actions-loop-action : goal.invariant-lower_actions-loop-action
invariant-lower_actions-loop-action l = map statement_tree l.lowered.items ≡ map (λ a. low_action l.spare (action_tree a)) (take l.action-index l.actions)
