use Rattle.std.proofs.Common.{ℕ, ◌<◌, slice_index_or}
use Rattle.c_program.specs.declared.action.Action.{Action}
use Rattle.c_program.specs.Views.{action_tree}
use Rattle.cminor_lowering.specs.Held.{IsHeld}
use Rattle.cminor_lowering.proofs.held.+walking.Given as goal

abbrev pub invariant-actions_held-loop-action : goal.invariant-actions_held-loop-action
invariant-actions_held-loop-action l = (k : ℕ) (d : Action) → k < l.action-index → IsHeld (action_tree (slice_index_or l.actions k d))
