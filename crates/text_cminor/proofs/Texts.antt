-- The texts of trees that are in memory.
use Rattle.std.proofs.Common.{◌≡◌, List, [], ◌∷◌, ◌++◌, map, refl, sym, ap, ◌∙◌}
use Rattle.std.specs.List.{flat_map}
use Rattle.std.proofs.lemmas.List.{append_assoc}
use Rattle.cminor_syntax.specs.Trees as T
use Rattle.cminor_syntax.specs.Views.{expression_tree, statement_tree, statements_tree}
use Rattle.cminor_syntax.specs.declared.expression.Expression.{Expression}
use Rattle.cminor_syntax.specs.declared.statement.Statement.{Statement}
use Rattle.text_keys.specs.declared.key.Key.TheVariants as key
use Rattle.text_cminor.specs.Shown.{shown_expression, shown_value, shown_statement, shown_one, shown_statements, shown_sequence, shown_line, shown_key}

pub expressions_map : (es : List Expression) → flat_map shown_expression (map expression_tree es) ≡ flat_map shown_value es
expressions_map [] = refl
expressions_map (e ∷ es) = ap (λ l. shown_expression (expression_tree e) ++ l) (expressions_map es)

pub statements_shown : (ss : List Statement) → shown_statements (statements_tree ss) ≡ flat_map shown_one ss ++ shown_line (shown_key key.End)
statements_shown [] = refl
statements_shown (s ∷ ss) =
    ap (λ l. shown_statement (statement_tree s) ++ l) (statements_shown ss)
    ∙ sym (append_assoc (shown_statement (statement_tree s)) (flat_map shown_one ss) (shown_line (shown_key key.End)))

pub sequence_shown : (ss : List Statement) → shown_statement (T.Sequence (statements_tree ss)) ≡ shown_sequence ss
sequence_shown ss = ap (λ t. shown_line (shown_key key.Sequence) ++ t) (statements_shown ss)
