-- Why `cut` meets its contract, and its loop over `statement` keeps the invariant.
use Rattle.std.proofs.Common.{◌≡◌, ◌≤◌, ◌<◌, List, [], ◌∷◌, ◌++◌, length, refl, sym, ap, subst, ◌∙◌, arith}
use Rattle.std.specs.Prelude.{MatchBool}
use Rattle.std.proofs.lemmas.List.{length-append}
use Rattle.std.specs.Vec.Iter.{into_iter_items}
use Rattle.cminor_syntax.specs.Trees.{Sequence}
use Rattle.cminor_syntax.specs.Views.{statement_tree, statements_tree}
use Rattle.cminor_lowering.specs.Sequences.{most_statements, pieces}
use Rattle.cminor.proofs.Cutting.{so_far, begins_next, goes_so, ends_so}
use Rattle.cminor.proofs.sequences.cut.Goals as goal
use Rattle.cminor.proofs.sequences.cut.Goals.{then-is_full+in_ok-push, else-is_full}

nothing_left : {X : Type 0} (l : List X) → length l ≡ 0 → l ≡ []
nothing_left [] h = refl
nothing_left (x ∷ xs) h = absurd (omega arith)

pub loop-statement-preserved : goal.loop-statement-preserved
loop-statement-preserved c =
    let at = c.loop-statement in
    let done = at.pieces.items in
    let begun = at.piece.items in
    let x = c.in-Some.statement in
    let rest = into_iter_items c.next.new.self in
    let next = c.push-in-loop-statement.new.self.items in
    let steps : into_iter_items at.statement-iterator ≡ x ∷ rest = c.in-Some.ensures.steps.0 in
    let before : so_far done begun (x ∷ rest) ≡ pieces (statements_tree c.args.statements.items) =
    subst (λ r. so_far done begun r ≡ pieces (statements_tree c.args.statements.items)) steps at.invariant.0 in
    let pushed : next ≡ c.if-is_full.piece.items ++ x ∷ [] = c.in_ok-push-2.ensures.items in
    let full = subst (λ p. MatchBool c.is_full.result (most_statements ≤ length p) (length p < most_statements)) c.as_slice.ensures.value c.is_full.ensures in
    let below = at.invariant.1 in
    let was = at.invariant.2 in
    let gone = c.in-Some.ensures.steps.1 in
    let short = ap length steps in
    elim c.if-is_full.branch [
      | then-is_full+in_ok-push w ↦
          let whole = w.sequence.result in
          let over : most_statements ≤ length begun = subst (λ b. MatchBool b (most_statements ≤ length begun) (length begun < most_statements)) w.if-is_full.true full in
          let is : statement_tree whole ≡ Sequence (statements_tree begun) = w.sequence.ensures ∙ ap (λ v. Sequence (statements_tree v.items)) w.replace-whole.ensures.value in
          let more : c.if-is_full.pieces.items ≡ done ++ whole ∷ [] = ap (λ v. v.items) w.pieces-is ∙ w.in_ok-push.ensures.items in
          let none : c.if-is_full.piece.items ≡ [] = ap (λ v. v.items) w.piece-is ∙ ap (λ v. v.items) w.replace-whole.ensures.after ∙ w.new.ensures.items in
          let one : next ≡ x ∷ [] = pushed ∙ ap (λ ys. ys ++ x ∷ []) none in
          let few = ap length one in (
            ap (λ ps. so_far ps next rest) more ∙ ap (λ ys. so_far (done ++ whole ∷ []) ys rest) one
                ∙ sym (begins_next done begun rest x whole (omega (arith, below, over)) is) ∙ before,
            omega (arith, few),
            omega arith,
          )
      | else-is_full w ↦
          let under : length begun < most_statements = subst (λ b. MatchBool b (most_statements ≤ length begun) (length begun < most_statements)) w.if-is_full.false full in
          let same : c.if-is_full.pieces.items ≡ done = ap (λ v. v.items) w.pieces-is in
          let longer : next ≡ begun ++ x ∷ [] = pushed ∙ ap (λ v. v.items ++ x ∷ []) w.piece-is in
          let few = ap length longer ∙ length-append begun (x ∷ []) in (
            ap (λ ps. so_far ps next rest) same ∙ ap (λ ys. so_far done ys rest) longer ∙ sym (goes_so done begun rest x under) ∙ before,
            omega (arith, few, under),
            omega arith,
          )
    ]

pub returns : goal.returns
returns c =
    let at = c.loop-statement in
    let none = c.in-None.ensures.steps in
    let empty : into_iter_items at.statement-iterator ≡ [] = nothing_left _ (sym at.invariant.2 ∙ none.0) in
    ap statements_tree c.in_ok-push-3.ensures.items
    ∙ ends_so at.pieces.items at.piece.items c.sequence-2.result c.sequence-2.ensures
    ∙ ap (so_far at.pieces.items at.piece.items) (sym empty) ∙ at.invariant.0
