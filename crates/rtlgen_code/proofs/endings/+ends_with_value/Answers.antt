-- Why `+ends_with_value` meets its contract.
use Rattle.std.proofs.Common.{◌≡◌, sym, ap, ◌∙◌}
use Rattle.cminor_syntax.specs.Trees as T
use Rattle.cminor_syntax.specs.Views.{statement_tree, statements_tree}
use Rattle.cminor_codec.proofs.Rows.{view_sequence}
use Rattle.rtlgen_definition.specs.Gen.{ends_with_value}
use Rattle.rtlgen_code.proofs.Lasts.{ends_there, last_ends}
use Rattle.rtlgen_code.proofs.endings.+ends_with_value.Goals as goal

pub returns-in-Some : goal.returns-in-Some
returns-in-Some t c =
    let all = c.as_slice.result.now in
    let same : statement_tree c.args.statement.now ≡ T.Sequence (statements_tree all) =
    ap statement_tree c.in-Sequence.is ∙ view_sequence c.in-Sequence.all ∙ ap (λ xs. T.Sequence (statements_tree xs)) (sym c.as_slice.ensures.value) in
    c.ends_with_value.ensures ∙ ap ends_there c.in-Some.ensures.value ∙ sym (last_ends all) ∙ sym (ap ends_with_value same)

pub returns-in-None : goal.returns-in-None
returns-in-None t c =
    let all = c.as_slice.result.now in
    let same : statement_tree c.args.statement.now ≡ T.Sequence (statements_tree all) =
    ap statement_tree c.in-Sequence.is ∙ view_sequence c.in-Sequence.all ∙ ap (λ xs. T.Sequence (statements_tree xs)) (sym c.as_slice.ensures.value) in
    ap ends_there c.in-None.ensures.value ∙ sym (last_ends all) ∙ sym (ap ends_with_value same)
