-- One more function's parts, or a function whose texts spell none.
use Rattle.std.proofs.Common.{◌≡◌, [], ◌∷◌, ◌++◌, Ok, Some, length, map, sym, ap, subst, ◌∙◌, arith, append-nil, append_assoc, length-append}
use Rattle.std.specs.Prelude.{slice_get}
use Rattle.std.specs.Vec.Iter.{into_iter_items}
use Rattle.std.proofs.lemmas.List.{nil_from_length}
use Rattle.bundle_reading.specs.Read.{AreFound, four_in}
use Rattle.bundle_reading.proofs.Paired.{paired, paired_at, paired_more}
use Rattle.bundle_reading.proofs.Readings.{Gathered, all_gathered, begun, gathers, none_among}
use Rattle.bundle_reading.proofs.gathering.gathered.Goals as goal

pub loop-one-init : goal.loop-one-init
loop-one-init g c =
    let gives = c.into_iter-one-iterator.ensures.into_iter_gives in
    record {
      counted = omega (arith, gives.1, ap length gives.0, c.args.found.ok.0);
      gathered = rw c.in_ok-fours.ensures.items (begun c.args.functions.now _ (subst (λ fs. AreFound c.args.functions.now (map four_in fs)) (sym gives.0) c.requires));
      many = ap length c.in_ok-told.ensures.items ∙ sym (ap length c.in_ok-fours.ensures.items);
      split = rw c.in_ok-fours.ensures.items (sym gives.0);
    }

pub loop-one-preserved : goal.loop-one-preserved
loop-one-preserved g c =
    let steps = c.in-Some.ensures.steps in
    let so_far = c.loop-one.invariant in
    let left = into_iter_items c.next.new.self in
    let four = c.in-Ok.four in
    let answer = c.in-Ok.answer in
    let fours = c.loop-one.fours.items in
    let told = c.loop-one.told.items in
    let next = steps.0 ∙ ap (λ o. o ∷ left) c.in-Ok.is in
    let whole = subst (λ l. Gathered c.args.functions.now fours (map four_in l)) next so_far.gathered in
    let more = c.in_ok-push-in-Ok.ensures.items in
    let more_told = c.in_ok-push-in-Ok-2.ensures.items in
    record {
      counted = omega (arith, steps.1, ap length steps.0, so_far.counted);
      gathered = rw more (gathers c.args.functions.now fours four (map four_in left) whole);
      many = rw (more, more_told) (omega (arith, length-append told (answer ∷ []), length-append fours (four ∷ []), so_far.many));
      split =
          so_far.split ∙ ap (λ l. paired fours told ++ l) next
          ∙ sym (append_assoc (paired fours told) (Ok (four, answer) ∷ []) left)
          ∙ ap (λ l. l ++ left) (sym (paired_more fours told four answer so_far.many))
          ∙ (λ i. paired (sym more i) (sym more_told i) ++ left);
    }

pub returns-in-Err-clause-refused : goal.returns-in-Err-clause-refused
returns-in-Err-clause-refused g c =
    let steps = c.in-Some.ensures.steps in
    let left = into_iter_items c.next.new.self in
    none_among c.args.functions.now c.loop-one.fours.items c.in-Err.fault (map four_in left)
    (subst (λ l. Gathered c.args.functions.now c.loop-one.fours.items (map four_in l)) (steps.0 ∙ ap (λ o. o ∷ left) c.in-Err.is) c.loop-one.invariant.gathered)

pub returns-clause-ok : goal.returns-clause-ok
returns-clause-ok g c =
    let so_far = c.loop-one.invariant in
    let none : into_iter_items c.loop-one.one-iterator ≡ [] = nil_from_length _ (omega (arith, c.in-None.ensures.steps.0, so_far.counted)) in
    all_gathered c.args.functions.now c.loop-one.fours.items (subst (λ l. Gathered c.args.functions.now c.loop-one.fours.items (map four_in l)) none so_far.gathered)

pub returns-clause-told : goal.returns-clause-told
returns-clause-told g c =
    let so_far = c.loop-one.invariant in
    let fours = c.loop-one.fours.items in
    let told = c.loop-one.told.items in
    let none : into_iter_items c.loop-one.one-iterator ≡ [] = nil_from_length _ (omega (arith, c.in-None.ensures.steps.0, so_far.counted)) in
    let whole = so_far.split ∙ ap (λ l. paired fours told ++ l) none ∙ append-nil (paired fours told) in
    record {
      count = so_far.many;
      each = λ i four answer e e'. subst (λ l. slice_get l i ≡ Some (Ok (four, answer))) (sym whole) (paired_at fours told i four answer e e');
    }
