-- Statements cut into pieces, one by one: the pieces so far, the piece that is begun, and what is left to cut.
use Rattle.std.proofs.Common.{◌≡◌, ℕ, zero, suc, ◌-◌, ◌<◌, true, false, cond, List, [], ◌∷◌, ◌++◌, length, refl, sym, ap, ◌∙◌, arith}
use Rattle.std.specs.Prelude.{nat_le}
use Rattle.std.proofs.lemmas.List.{length-append}
use Rattle.cminor_syntax.specs.declared.statement.Statement.{Statement}
use Rattle.cminor_syntax.specs.Trees.{StatementsTree, Sequence, Done, First}
use Rattle.cminor_syntax.specs.Views.{statement_tree, statements_tree}
use Rattle.cminor_lowering.specs.Programs.{followed_by}
use Rattle.cminor_syntax.specs.Fits.{statement_count}
use Rattle.cminor_lowering.specs.Sequences.{Cut, most_statements, cut, pieces, gathered}
use Rattle.cminor.proofs.Bodies.{none_behind}

-- how many they are
pub counted : (ss : List Statement) → statement_count (statements_tree ss) ≡ length ss
counted [] = refl
counted (s ∷ ss) = ap (λ n. suc n) (counted ss)

pub gathered_few : (ss : StatementsTree) → nat_le (statement_count ss) most_statements ≡ true → gathered ss ≡ ss
gathered_few ss e = ap (λ b. cond b ss (pieces ss)) e

pub gathered_many : (ss : StatementsTree) → nat_le (statement_count ss) most_statements ≡ false → gathered ss ≡ pieces ss
gathered_many ss e = ap (λ b. cond b ss (pieces ss)) e

-- the pieces so far, and behind them the piece that is begun with what is cut from the rest
abbrev pub joined : (done : StatementsTree) (begun : StatementsTree) → Cut → StatementsTree
joined done begun c = followed_by done (First (Sequence (followed_by begun c.piece)) c.behind)

abbrev pub so_far : (done begun rest : List Statement) → StatementsTree
so_far done begun rest = joined (statements_tree done) (statements_tree begun) (cut (most_statements - length begun) (statements_tree rest))

behind_one : (ss : List Statement) (s : Statement) (last : StatementsTree) →
    followed_by (statements_tree (ss ++ s ∷ [])) last ≡ followed_by (statements_tree ss) (First (statement_tree s) last)
behind_one [] s last = refl
behind_one (t ∷ ss) s last = ap (λ l. First (statement_tree t) l) (behind_one ss s last)

-- nothing is cut yet
pub begins_so : (all : List Statement) → so_far [] [] all ≡ pieces (statements_tree all)
begins_so all = refl

-- a statement goes to the piece that is begun
pub goes_so : (done begun rest : List Statement) (x : Statement) → length begun < most_statements →
    so_far done begun (x ∷ rest) ≡ so_far done (begun ++ x ∷ []) rest
goes_so done begun rest x few = at (most_statements - length begun) refl
  where
    at : (left : ℕ) → most_statements - length begun ≡ left →
        joined (statements_tree done) (statements_tree begun) (cut left (First (statement_tree x) (statements_tree rest))) ≡ so_far done (begun ++ x ∷ []) rest
    at zero e = absurd (omega (arith, few, e))
    at (suc left) e =
        let c = cut left (statements_tree rest) in
        let same : left ≡ most_statements - length (begun ++ x ∷ []) = omega (arith, e, length-append begun (x ∷ [])) in
        ap (λ p. followed_by (statements_tree done) (First (Sequence p) c.behind)) (sym (behind_one begun x c.piece))
        ∙ ap (λ n. joined (statements_tree done) (statements_tree (begun ++ x ∷ [])) (cut n (statements_tree rest))) same

-- a whole piece is done, and the statement begins the next
pub begins_next : (done begun rest : List Statement) (x whole : Statement) → length begun ≡ most_statements → statement_tree whole ≡ Sequence (statements_tree begun) →
    so_far done begun (x ∷ rest) ≡ so_far (done ++ whole ∷ []) (x ∷ []) rest
begins_next done begun rest x whole full is = at (most_statements - length begun) (omega (arith, full))
  where
    at : (left : ℕ) → left ≡ 0 →
        joined (statements_tree done) (statements_tree begun) (cut left (First (statement_tree x) (statements_tree rest))) ≡ so_far (done ++ whole ∷ []) (x ∷ []) rest
    at zero e =
        let c = cut (most_statements - 1) (statements_tree rest) in
        let next = First (Sequence (First (statement_tree x) c.piece)) c.behind in
        ap (λ p. followed_by (statements_tree done) (First (Sequence p) next)) (none_behind (statements_tree begun))
        ∙ ap (λ s. followed_by (statements_tree done) (First s next)) (sym is)
        ∙ sym (behind_one done whole next)
    at (suc left) e = absurd cc

-- nothing is left to cut
pub ends_so : (done begun : List Statement) (last : Statement) → statement_tree last ≡ Sequence (statements_tree begun) →
    statements_tree (done ++ last ∷ []) ≡ so_far done begun []
ends_so done begun last is =
    sym (none_behind (statements_tree (done ++ last ∷ []))) ∙ behind_one done last Done
    ∙ ap (λ s. followed_by (statements_tree done) (First s Done)) is
    ∙ ap (λ p. followed_by (statements_tree done) (First (Sequence p) Done)) (sym (none_behind (statements_tree begun)))
