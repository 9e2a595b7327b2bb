-- Why `+walking` meets what its body asks for.
use Rattle.std.proofs.Common.{◌≡◌, sym, ap, subst, ◌∙◌}
use Rattle.c_program.specs.Trees as T
use Rattle.c_program.specs.Views.{action_tree, actions_tree}
use Rattle.c_program.proofs.Sequences.{view_sequence}
use Rattle.cminor_lowering.specs.Held.{IsHeld}
use Rattle.cminor_lowering.proofs.Rows.{from_each}
use Rattle.cminor_lowering.proofs.held.+walking.Goals as goal

pub action_held-returns-in-Sequence : goal.action_held-returns-in-Sequence
action_held-returns-in-Sequence t c =
    let all = c.as_slice-all.result.now in
    let same : T.Sequence (actions_tree all) ≡ action_tree c.args.action.now =
    ap (λ xs. T.Sequence (actions_tree xs)) c.as_slice-all.ensures.value ∙ sym (ap action_tree c.in-Sequence.is ∙ view_sequence c.in-Sequence.all) in
    subst IsHeld same (c.has_length.ensures, from_each all c.actions_held.ensures)
