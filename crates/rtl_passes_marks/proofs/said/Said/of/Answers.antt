-- Why the loop of `of` over `number` keeps the invariant.
use Rattle.std.proofs.Common.{length, map, ap, ◌≡◌, ◌∙◌, arith}
use Rattle.std.proofs.lemmas.List.{with_items_is}
use Rattle.std.specs.Prelude.{slice_set}
use Rattle.rtl_passes_marks.specs.Handing.{spread_on, entries_by}
use Rattle.rtl_passes_marks.proofs.Numbers.{none_behind, row_on}
use Rattle.rtl_passes_marks.proofs.said.Said.of.Goals as goal

pub loop-number-init : goal.loop-number-init
loop-number-init g c =
    let rows = c.args.rows.now in
    ap (λ ps. spread_on rows (map (entries_by rows) ps)) c.in_ok-places.ensures ∙ ap (spread_on rows) (none_behind rows c.args.nodes)

pub loop-number-preserved : goal.loop-number-preserved
loop-number-preserved g c =
    let row = c.index-rows-number.result in
    let number = c.loop-number.number in
    let whole : length c.say.new.places ≡ c.loop-number.places.len = omega (arith, c.say.auto.places, c.deref_mut.ensures.len) in
    row_on c.args.rows.now _ c.loop-number.places.items _ number row c.loop-number-test.true c.index-rows-number.is
    (with_items_is c.loop-number.places c.say.new.places whole ∙ c.say.ensures ∙ ap (λ ps. slice_set ps row.node number) c.deref_mut.ensures.value)
    c.loop-number.invariant
