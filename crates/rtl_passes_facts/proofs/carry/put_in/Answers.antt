-- Why `put_in` meets its contract.
use Rattle.std.proofs.Common.{◌≡◌, ◌<◌, length, get_or, sym, ap, ◌∙◌, arith}
use Rattle.std.proofs.lemmas.List.{get_or_default}
use Rattle.rtl_passes_filled.proofs.Places.{put_is_insert, put_is_set}
use Rattle.rtl_passes_facts.proofs.carry.put_in.Goals.{else-at-len-via-then-at-len+else-place, else-at-len-via-else-at-len}
use Rattle.rtl_passes_facts.proofs.carry.put_in.Goals as goal

pub returns-then-place : goal.returns-then-place
returns-then-place g c =
    let rank = g.R.Rules.rules.rank in
    let facts = c.args.facts.now.items in
    let at = c.first_from-at.result in
    let first = rw (c.as_slice.ensures.value, c.place-place.ensures.value) at c.first_from-at.ensures in
    let below : at < length facts = omega (arith, c.if-at-len.true, c.len.ensures) in
    sym (put_is_set rank c.args.fact facts at below first.lower
    (λ d. ap rank (get_or_default facts at d c.index.result.now below ∙ sym c.index.ensures) ∙ sym c.place.ensures.value ∙ c.if-place.true ∙ c.place-place.ensures.value))

pub returns-in_ok-insert : goal.returns-in_ok-insert
returns-in_ok-insert g c =
    let rank = g.R.Rules.rules.rank in
    let facts = c.args.facts.now.items in
    let at = c.first_from-at.result in
    let first = rw (c.as_slice.ensures.value, c.place-place.ensures.value) at c.first_from-at.ensures in
    c.in_ok-insert.ensures.items ∙ sym (put_is_insert rank c.args.fact facts at first.within first.lower
    (λ d within.
    elim c.else-at-len.branch [
      | else-at-len-via-then-at-len+else-place w ↦
          let is : rank (get_or facts at d) ≡ w.place.result = ap rank (get_or_default facts at d w.index.result.now within ∙ sym w.index.ensures) ∙ sym w.place.ensures.value in
          omega (arith, first.here d within, is, c.place-place.ensures.value, w.if-place.false)
      | else-at-len-via-else-at-len w ↦ absurd (omega (arith, within, w.if-at-len.false, c.len.ensures))
    ]))
