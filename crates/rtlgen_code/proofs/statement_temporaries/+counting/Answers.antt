-- Why `+counting` may call `statement_needs`.
use Rattle.std.proofs.Common.{◌≡◌, ◌<◌, sym, ap, subst, ◌∙◌}
use Rattle.cminor_syntax.specs.Trees as T
use Rattle.cminor_syntax.specs.Views.{statement_tree, statements_tree}
use Rattle.cminor_codec.proofs.Rows.{view_sequence}
use Rattle.rtlgen_definition.specs.Gen.{statement_needs}
use Rattle.rtlgen_code.proofs.statement_temporaries.+counting.Goals as goal

pub statement_needs-each_has_few-requires : goal.statement_needs-each_has_few-requires
statement_needs-each_has_few-requires t c =
    let all = c.as_slice-all.result.now in
    let same : statement_tree c.args.statement.now ≡ T.Sequence (statements_tree all) =
    ap statement_tree c.in-Sequence.is ∙ view_sequence c.in-Sequence.all ∙ ap (λ xs. T.Sequence (statements_tree xs)) (sym c.as_slice-all.ensures.value) in
    subst (λ s. statement_needs s < 65536) same c.requires

pub statement_needs-returns-in-Sequence : goal.statement_needs-returns-in-Sequence
statement_needs-returns-in-Sequence t c =
    let all = c.as_slice-all.result.now in
    let same : statement_tree c.args.statement.now ≡ T.Sequence (statements_tree all) =
    ap statement_tree c.in-Sequence.is ∙ view_sequence c.in-Sequence.all ∙ ap (λ xs. T.Sequence (statements_tree xs)) (sym c.as_slice-all.ensures.value) in
    c.statements_need.ensures ∙ sym (ap statement_needs same)
