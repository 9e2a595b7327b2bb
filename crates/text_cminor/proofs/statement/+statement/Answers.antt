-- Why `+statement` meets what its body asks for.
use Rattle.std.proofs.Common.{◌≡◌, List, ◌++◌, sym, ap, subst, ◌∙◌}
use Rattle.std.proofs.lemmas.Result.{err_from_is_err_and}
use Rattle.lang_base.specs.Texts.{Appends}
use Rattle.lang_base.proofs.Beginnings.{IsBeginningOf-trans}
use Rattle.cminor_syntax.specs.Trees as T
use Rattle.cminor_syntax.specs.Views.{statement_tree, statements_tree}
use Rattle.cminor_codec.proofs.Rows.{view_sequence}
use Rattle.text_cminor.specs.Shown.{shown_statement}
use Rattle.text_cminor.proofs.Texts.{sequence_shown}
use Rattle.text_cminor.proofs.statement.+statement.Goals as goal

pub push_each-returns-in_err-push_statement : goal.push_each-returns-in_err-push_statement
push_each-returns-in_err-push_statement t c =
    let p = err_from_is_err_and c.from_residual.result c.from_residual.ensures.1 in
    rw p.1 (IsBeginningOf-trans _ _ _ (_, sym c.loop-statement.invariant) c.in_err-push_statement.ensures)

pub push_statement-returns-in-Sequence : goal.push_statement-returns-in-Sequence
push_statement-returns-in-Sequence t c =
    let v = c.in-Sequence.statements in
    let ss = c.as_slice-statements.result.now in
    let same : statement_tree c.args.statement.now ≡ T.Sequence (statements_tree ss) =
    ap statement_tree c.in-Sequence.is ∙ view_sequence v ∙ ap (λ xs. T.Sequence (statements_tree xs)) (sym c.as_slice-statements.ensures.value) in
    subst (λ l. Appends c.push_sequence.result l c.args.out.now.items c.push_sequence.new.out.items) (sym (ap shown_statement same ∙ sequence_shown ss)) c.push_sequence.ensures
