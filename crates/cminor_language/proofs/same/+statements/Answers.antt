-- Why `+statements` meets what its body asks for.
use Rattle.std.proofs.Common.{◌≡◌, sym, ap, ◌∙◌}
use Rattle.cminor_syntax.specs.Trees as T
use Rattle.cminor_syntax.specs.Views.{statement_tree, statements_tree}
use Rattle.cminor_codec.proofs.Rows.{view_sequence}
use Rattle.cminor_language.specs.Same.{same_statement}
use Rattle.cminor_language.proofs.Pointwise.{same_rows}
use Rattle.cminor_language.proofs.same.+statements.Goals as goal

pub same_statement-returns-in-Sequence : goal.same_statement-returns-in-Sequence
same_statement-returns-in-Sequence t c =
    let right : T.Sequence (statements_tree c.as_slice-statements.result.now) ≡ statement_tree c.args.right.now =
    ap (λ ss. T.Sequence (statements_tree ss)) c.as_slice-statements.ensures.value ∙ sym (ap statement_tree c.in-Sequence.is ∙ view_sequence c.in-Sequence.statements) in
    c.is_sequence.ensures ∙ ap (same_statement (statement_tree c.args.left.now)) right

pub is_sequence-returns-in-Sequence : goal.is_sequence-returns-in-Sequence
is_sequence-returns-in-Sequence t c =
    let others = c.as_slice-others.result.now in
    let left : T.Sequence (statements_tree others) ≡ statement_tree c.args.left.now =
    ap (λ ss. T.Sequence (statements_tree ss)) c.as_slice-others.ensures.value ∙ sym (ap statement_tree c.in-Sequence.is ∙ view_sequence c.in-Sequence.others) in
    c.same_each.ensures ∙ sym (same_rows others c.args.statements.now) ∙ ap (λ s. same_statement s (T.Sequence (statements_tree c.args.statements.now))) left
