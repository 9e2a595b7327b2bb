-- Why `walk_along` meets its clauses `misplaced` and `longer`, and its loop over `i` keeps the invariant.
use Rattle.std.proofs.Common.{◌≡◌, ℕ, zero, suc, ◌<◌, ◌+◌, Bool, true, false, not, eqb, length, ◌++◌, drop, subst, sym, ap, ◌∙◌, arith}
use Rattle.std.specs.Prelude.{◌↔◌}
use Rattle.std.proofs.lemmas.Bool.{iff_false, ne_eqb}
use Rattle.std.proofs.lemmas.List.{take_rest, drop-drop, length-drop}
use Rattle.linearize_check_proof.specs.Layout.{order_code}
use Rattle.linearize_check.specs.Faults.{StandsAt, TellsLowest, first_stretch, place_at}
use Rattle.linearize_check.proofs.Lowest.{lowest-right, lowest-wrong}
use Rattle.linearize_check.proofs.Positions.{place-zero, place-more, place-length, first_stretch-drop}
use Rattle.linearize_check.proofs.walk.walk_along.Goals as goal
use Rattle.linearize_check.proofs.walk.walk_along.Goals.{then-not-begins_with, else-not-begins_with}

-- what `is_empty` answers
not_empty : (b : Bool) (n : ℕ) → b ≡ eqb n 0 → (not b ≡ true) ↔ (0 < n)
not_empty b zero e = (λ yes. absurd (let at : b ≡ true = e in let no : not b ≡ false = ap not at in cc), λ below. absurd (omega (arith, below)))
not_empty b (suc n) e = (λ yes. omega arith, λ below. let no : b ≡ false = e ∙ ne_eqb (suc n) 0 (λ z. absurd (omega (arith, z))) in ap not no)

pub loop-i-init : goal.loop-i-init
loop-i-init c = record {
  lowest = λ i below. absurd (omega arith);
  left = ap (λ n. drop n c.args.code.now) (sym (place-zero c.args.blocks.now c.args.order.now));
}

pub loop-i-preserved : goal.loop-i-preserved
loop-i-preserved c =
    let blocks = c.args.blocks.now in
    let order = c.args.order.now in
    let code = c.args.code.now in
    let i = c.loop-i.i in
    let written = rw (c.clear.ensures.items, take_rest order (i + 1)) at c.in_ok-push_stretch.ensures in
    let first : c.as_slice.result.now ≡ first_stretch blocks (drop i order) =
    c.as_slice.ensures.value ∙ written ∙ sym (first_stretch-drop blocks order i c.loop-i-test.true) in
    let place : place_at blocks order i + c.len.result ≡ place_at blocks order (i + 1) =
    omega (arith, place-more blocks order i c.loop-i-test.true, ap length first, c.as_slice.ensures.len, c.len.ensures) in
    record {
      lowest = elim c.if-not-begins_with.branch [
        | then-not-begins_with w ↦ rw (w.misplaced-is, w.lesser-misplaced.ensures) (lowest-wrong (StandsAt blocks code order) order i _ (λ stands. iff_false c.begins_with.ensures w.if-not-begins_with.true (stands.0, c.loop-i.invariant.left ∙ stands.1 ∙ ap (λ front. front ++ stands.0) (sym first))) c.loop-i.invariant.lowest)
        | else-not-begins_with w ↦ rw w.misplaced-is (lowest-right (StandsAt blocks code order) order i _ (let begins = c.begins_with.ensures.0 w.if-not-begins_with.false in (begins.0, sym c.loop-i.invariant.left ∙ begins.1 ∙ ap (λ front. front ++ begins.0) first)) c.loop-i.invariant.lowest)
      ];
      left = c.behind-left.ensures ∙ ap (drop c.len.result) c.loop-i.invariant.left ∙ drop-drop c.len.result (place_at blocks order i) code ∙ ap (λ n. drop n code) place;
    }

pub returns-clause-misplaced : goal.returns-clause-misplaced
returns-clause-misplaced c =
    let order = c.args.order.now in
    let all : c.loop-i.i ≡ length order = omega arith in
    subst (λ n. TellsLowest (StandsAt c.args.blocks.now c.args.code.now order) order n c.loop-i.misplaced) all c.loop-i.invariant.lowest

pub returns-clause-longer : goal.returns-clause-longer
returns-clause-longer c =
    let order = c.args.order.now in
    let all : c.loop-i.i ≡ length order = omega arith in
    let place : place_at c.args.blocks.now order c.loop-i.i ≡ length (order_code c.args.blocks.now order) = ap (place_at c.args.blocks.now order) all ∙ place-length c.args.blocks.now order in
    let left = ap length c.loop-i.invariant.left ∙ length-drop (place_at c.args.blocks.now order c.loop-i.i) c.args.code.now in
    let some_left = not_empty c.is_empty.result (length c.loop-i.left.now) c.is_empty.ensures in
    (λ yes. omega (arith, some_left.0 yes, left, place), λ longer. some_left.1 (omega (arith, longer, left, place)))
