-- Why `+writing` may call `push_statement`.
use Rattle.std.proofs.Common.{◌≡◌, [], ◌∷◌, sym, ap, subst, ◌∙◌}
use Rattle.std.specs.Int.{w32, to_be_bytes}
use Rattle.std.proofs.lemmas.Result.{err_from_is_err_and}
use Rattle.lang_base.proofs.Beginnings.{IsBeginningOf-trans}
use Rattle.cminor_syntax.specs.Fits.{statement_count}
use Rattle.cminor_syntax.specs.Trees as T
use Rattle.cminor_syntax.specs.Views.{statement_tree, statements_tree}
use Rattle.cminor_codec.specs.Short.{HasShortLists}
use Rattle.cminor_codec.proofs.Rows.{view_sequence}
use Rattle.cminor_codec.proofs.Texts.{statements_texts, appends_behind}
use Rattle.cminor_codec.proofs.writing.+writing.Goals as goal

pub push_each-returns-in_err-push_statement : goal.push_each-returns-in_err-push_statement
push_each-returns-in_err-push_statement t c =
    let p = err_from_is_err_and c.from_residual.result c.from_residual.ensures.1 in
    rw p.1 (IsBeginningOf-trans _ _ _ (_, sym c.loop-statement.invariant) c.in_err-push_statement.ensures)

pub push_statement-are_short-requires : goal.push_statement-are_short-requires
push_statement-are_short-requires t c =
    let v = c.in-Sequence.statements in
    let same : statement_tree c.args.statement.now ≡ T.Sequence (statements_tree c.as_slice-statements.result.now) =
    ap statement_tree c.in-Sequence.is ∙ view_sequence v ∙ ap (λ ss. T.Sequence (statements_tree ss)) (sym c.as_slice-statements.ensures.value) in
    subst HasShortLists same c.requires

pub push_statement-returns-in_ok-push_count-in-Sequence : goal.push_statement-returns-in_ok-push_count-in-Sequence
push_statement-returns-in_ok-push_count-in-Sequence t c =
    let v = c.in-Sequence.statements in
    let ss = statements_tree c.as_slice-statements.result.now in
    let same : statement_tree c.args.statement.now ≡ T.Sequence ss =
    ap statement_tree c.in-Sequence.is ∙ view_sequence v ∙ ap (λ xs. T.Sequence (statements_tree xs)) (sym c.as_slice-statements.ensures.value) in
    let coded = rw (c.code_of_statement.ensures, same) at c.in_ok-push_byte.ensures in
    rw (same, statements_texts c.as_slice-statements.result.now)
    (appends_behind c.push_each.result (5 ∷ []) _ c.args.out.now.items c.push_byte.new.out.items c.push_each.new.out.items coded
    (appends_behind c.push_each.result (to_be_bytes w32 (statement_count ss)) _ c.push_byte.new.out.items c.push_count.new.out.items c.push_each.new.out.items c.in_ok-push_count-in-Sequence.ensures c.push_each.ensures))
