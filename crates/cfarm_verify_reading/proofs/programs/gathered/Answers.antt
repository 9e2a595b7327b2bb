-- One more function, or all of them.
use Rattle.std.proofs.Common.{◌≡◌, [], ◌∷◌, length, ap, subst, ◌∙◌, arith}
use Rattle.std.specs.Vec.Iter.{into_iter_items}
use Rattle.std.proofs.lemmas.List.{nil_from_length}
use Rattle.cfarm_verify_reading.specs.Made.{made_of}
use Rattle.cfarm_verify_reading.proofs.Made.{Gathered, all_gathered, gathers}
use Rattle.cfarm_verify_reading.proofs.programs.gathered.Goals as goal

pub loop-one-preserved : goal.loop-one-preserved
loop-one-preserved c =
    let steps = c.in-Some.ensures.steps in
    let so_far = c.loop-one.invariant in
    let left = into_iter_items c.next.new.self in
    let whole = subst (λ l. Gathered (made_of c.args.functions.now) c.loop-one.all.items l) (steps.0 ∙ ap (λ o. o ∷ left) c.in-Some-one.is) so_far.gathered in
    record {
      counted = omega (arith, steps.1, ap length steps.0, so_far.counted);
      gathered = rw c.in-Ok-push.ensures.items (gathers (made_of c.args.functions.now) c.loop-one.all.items c.in-Some-one.made left whole);
    }

pub returns : goal.returns
returns c =
    let so_far = c.loop-one.invariant in
    let none : into_iter_items c.loop-one.one-iterator ≡ [] = nil_from_length _ (omega (arith, c.in-None.ensures.steps.0, so_far.counted)) in
    c.from_vec.ensures ∙ all_gathered (made_of c.args.functions.now) c.loop-one.all.items (subst (λ l. Gathered (made_of c.args.functions.now) c.loop-one.all.items l) none so_far.gathered)
