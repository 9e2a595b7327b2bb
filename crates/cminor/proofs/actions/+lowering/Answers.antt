-- Why `+lowering` may call `lower_action`.
use Rattle.std.proofs.Common.{◌≡◌, sym, ap, subst, ◌∙◌}
use Rattle.std.specs.Prelude.{IfOk}
use Rattle.cminor_syntax.specs.Fits.{StatementFits}
use Rattle.cminor_syntax.specs.Views.{statement_tree}
use Rattle.c_program.specs.Trees as P
use Rattle.c_program.specs.Views.{action_tree, actions_tree}
use Rattle.c_program.proofs.Sequences.{view_sequence}
use Rattle.cminor_lowering.specs.Actions.{low_action}
use Rattle.cminor_lowering.specs.Sequences.{sequence}
use Rattle.cminor.proofs.Listed.{listed}
use Rattle.cminor.proofs.actions.+lowering.Goals as goal

pub lower_action-are_in_range-requires : goal.lower_action-are_in_range-requires
lower_action-are_in_range-requires t c =
    let all = c.as_slice-all.result.now in
    let same : action_tree c.args.action.now ≡ P.Sequence (actions_tree all) =
    ap action_tree c.in-Sequence.is ∙ view_sequence c.in-Sequence.all ∙ ap (λ xs. P.Sequence (actions_tree xs)) (sym c.as_slice-all.ensures.value) in
    subst (λ a. StatementFits 65536 (low_action c.args.spare a)) same c.requires

pub lower_action-returns-in_ok-lowered-in-Sequence : goal.lower_action-returns-in_ok-lowered-in-Sequence
lower_action-returns-in_ok-lowered-in-Sequence t c =
    let all = c.as_slice-all.result.now in
    let same : action_tree c.args.action.now ≡ P.Sequence (actions_tree all) =
    ap action_tree c.in-Sequence.is ∙ view_sequence c.in-Sequence.all ∙ ap (λ xs. P.Sequence (actions_tree xs)) (sym c.as_slice-all.ensures.value) in
    let is = ap sequence (listed c.args.spare c.in_ok-lowered-in-Sequence.lowered.items all c.in_ok-lowered-in-Sequence.ensures) ∙ sym (ap (low_action c.args.spare) same) in
    subst (λ x. IfOk c.sequence_of.result (λ s. statement_tree s ≡ x)) is c.sequence_of.ensures
