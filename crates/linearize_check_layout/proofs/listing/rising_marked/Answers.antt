-- Why `rising_marked` meets its contract, and its loop over `place` keeps the invariant.
use Rattle.std.proofs.Common.{◌≡◌, Some, true, false, ap, ◌∙◌, sym, arith}
use Rattle.std.proofs.lemmas.Option.{slice_get-get_or, get_or_from_slice_get}
use Rattle.linearize_check_layout.proofs.Risings.{rising-skips, rising-lists, rising-all}
use Rattle.linearize_check_layout.proofs.listing.rising_marked.Goals as goal
use Rattle.linearize_check_layout.proofs.listing.rising_marked.Goals.{then-mark+then-node-entry+in_ok-push, else-mark, else-mark-via-then-mark+else-node-entry, else-mark-via-else-mark}

pub loop-place-preserved : goal.loop-place-preserved
loop-place-preserved c =
    let marks = c.args.marks.now in
    let place = c.loop-place.place in
    elim c.if-mark.branch [
      | then-mark+then-node-entry+in_ok-push w ↦ rw (w.order-is, w.in_ok-push.ensures.items) (rising-lists marks c.args.entry place _ (slice_get-get_or marks place false c.loop-place-test.true ∙ ap (λ b. Some b) w.if-mark.true) w.if-node-entry.true c.loop-place.invariant)
      | else-mark w ↦ rw w.order-is (rising-skips marks c.args.entry place _ (λ marked. elim w.else-mark.branch [
        | else-mark-via-then-mark+else-node-entry w' ↦ w'.if-node-entry.false
        | else-mark-via-else-mark w' ↦ absurd (let bad : false ≡ true = sym w'.if-mark.false ∙ get_or_from_slice_get marks place true false marked in cc)
      ]) c.loop-place.invariant)
    ]

pub returns : goal.returns
returns c = rising-all c.args.marks.now c.args.entry c.loop-place.place _ (omega arith) c.loop-place.invariant
