-- Why `+copying` meets what its body asks for.
use Rattle.std.proofs.Common.{◌≡◌, map, sym, ap, ◌∙◌}
use Rattle.cminor_syntax.specs.Trees as T
use Rattle.cminor_syntax.specs.Views.{statement_tree, statements_tree}
use Rattle.cminor_codec.proofs.Rows.{view_sequence}
use Rattle.cminor_language.proofs.Pointwise.{same_trees}
use Rattle.cminor_language.proofs.copying.+copying.Goals as goal

pub copy_statement-returns-in_ok-copied-in-Sequence : goal.copy_statement-returns-in_ok-copied-in-Sequence
copy_statement-returns-in_ok-copied-in-Sequence t c =
    let v = c.in-Sequence.statements in
    let rows : statements_tree c.in_ok-copied-in-Sequence.copied.items ≡ statements_tree v.items =
    same_trees c.in_ok-copied-in-Sequence.copied.items v.items (c.in_ok-copied-in-Sequence.ensures ∙ ap (map statement_tree) c.as_slice-statements.ensures.value) in
    c.sequence.ensures ∙ ap (λ ss. T.Sequence ss) rows ∙ sym (ap statement_tree c.in-Sequence.is ∙ view_sequence v)
