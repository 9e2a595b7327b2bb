-- The tokens behind some statements, one after the other.
use Rattle.std.proofs.Common.{◌≡◌, ℕ, ◌+◌, ◌<◌, List, ◌∷◌, length, get_or, drop, sym, ap, ◌∙◌}
use Rattle.std.proofs.lemmas.List.{drop_more}
use Rattle.c_syntax.specs.declared.statement.Statement.{Statement}
use Rattle.c_syntax.specs.declared.token.Token.{Token}
use Rattle.c_syntax.specs.Views.{statement_tree, statements_tree}
use Rattle.c_faults_tokens.specs.Tokens.{behind_statement, behind_statements}

-- behind those from a number on
abbrev pub behind_from : ℕ → List Statement → List Token → List Token
behind_from i statements ts = behind_statements (statements_tree (drop i statements)) ts

pub behind_one : (statements : List Statement) (i : ℕ) (x : Statement) (ts : List Token) → i < length statements → x ≡ get_or statements i x →
    behind_from i statements ts ≡ behind_from (i + 1) statements (behind_statement (statement_tree x) ts)
behind_one statements i x ts h e =
    ap (λ l. behind_statements (statements_tree l) ts) (drop_more statements i x h ∙ ap (λ y. y ∷ drop (i + 1) statements) (sym e))
