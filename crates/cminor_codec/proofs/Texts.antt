-- The texts and counts of trees that are in memory.
use Rattle.std.proofs.Common.{◌≡◌, ℕ, zero, suc, ◌<◌, List, [], ◌∷◌, ◌++◌, length, get_or, map, Result, Ok, Err, refl, sym, ap, ◌∙◌, arith, append_assoc}
use Rattle.std.specs.List.{flat_map}
use Rattle.lang_base.specs.Texts.{Appends}
use Rattle.lang_base.proofs.Beginnings.{IsBeginningOf-trans}
use Rattle.cminor_syntax.specs.Fits.{statement_count}
use Rattle.cminor_syntax.specs.Views.{expression_tree, statement_tree, statements_tree}
use Rattle.cminor_syntax.specs.declared.expression.Expression.{Expression}
use Rattle.cminor_syntax.specs.declared.statement.Statement.{Statement}
use Rattle.cminor_form.specs.Spelling.{expression_text, statement_text, statements_text}
use Rattle.cminor_codec.specs.Short.{HasShortLists, HaveShortLists}

pub expressions_texts : (es : List Expression) → flat_map expression_text (map expression_tree es) ≡ flat_map (λ e. expression_text (expression_tree e)) es
expressions_texts [] = refl
expressions_texts (e ∷ es) = ap (λ l. expression_text (expression_tree e) ++ l) (expressions_texts es)

pub expressions_length : (es : List Expression) → length (map expression_tree es) ≡ length es
expressions_length [] = refl
expressions_length (e ∷ es) = ap suc (expressions_length es)

pub statements_count : (ss : List Statement) → statement_count (statements_tree ss) ≡ length ss
statements_count [] = refl
statements_count (s ∷ ss) = ap suc (statements_count ss)

pub statements_texts : (ss : List Statement) → statements_text (statements_tree ss) ≡ flat_map (λ s. statement_text (statement_tree s)) ss
statements_texts [] = refl
statements_texts (s ∷ ss) = ap (λ l. statement_text (statement_tree s) ++ l) (statements_texts ss)

pub each_short : (ss : List Statement) → HaveShortLists (statements_tree ss) → (k : ℕ) (d : Statement) → k < length ss → HasShortLists (statement_tree (get_or ss k d))
each_short [] short k d below = absurd (omega arith)
each_short (s ∷ ss) short zero d below = short.0
each_short (s ∷ ss) short (suc k) d below = each_short ss short.1 k d (omega arith)

-- what is written behind a text
pub appends_behind : {T E : Type 0} (r : Result T E) (first text old middle new : List ℕ) → middle ≡ old ++ first → Appends r text middle new → Appends r (first ++ text) old new
appends_behind (Ok x) first text old middle new e h = h ∙ ap (λ l. l ++ text) e ∙ append_assoc old first text
appends_behind (Err d) first text old middle new e h = IsBeginningOf-trans old middle new (first, sym e) h
