-- The next parts are those of an offer.
use Rattle.std.proofs.Common.{◌≡◌, [], ◌∷◌, ◌++◌, length, sym, ap, subst, ◌∙◌, arith, append-nil, append_assoc}
use Rattle.std.specs.List.{AllByRecursion}
use Rattle.std.specs.Vec.Iter.{into_iter_items}
use Rattle.std.proofs.lemmas.List.{nil_from_length}
use Rattle.chains.specs.Accepted.{AreAccepted}
use Rattle.bundle_reading.specs.Read.{offers_in, offers_of}
use Rattle.bundle_reading.proofs.knowing.known_all.Goals as goal

pub loop-four-init : goal.loop-four-init
loop-four-init c =
    let gives = c.into_iter-four-iterator.ensures.into_iter_gives in
    record {
      split = rw c.new-offers.ensures.items (ap offers_in (sym gives.0));
      counted = omega (arith, gives.1, ap length gives.0, c.args.fours.ok.0);
      accepted = subst (λ fs. AllByRecursion AreAccepted (offers_in fs)) (sym gives.0) c.requires;
    }

pub known-requires : goal.known-requires
known-requires c =
    let steps = c.in-Some.ensures.steps in
    (subst (λ fs. AllByRecursion AreAccepted (offers_in fs)) steps.0 c.loop-four.invariant.accepted).0

pub loop-four-preserved : goal.loop-four-preserved
loop-four-preserved c =
    let steps = c.in-Some.ensures.steps in
    let i = c.loop-four.invariant in
    let left = into_iter_items c.next.new.self in
    let made : c.push.new.self.items ≡ c.loop-four.offers.items ++ offers_of c.in-Some.four ∷ [] = c.in_ok-push.ensures.items ∙ ap (λ o. c.loop-four.offers.items ++ o ∷ []) c.known.ensures in
    record {
      split =
          i.split ∙ ap (λ fs. c.loop-four.offers.items ++ offers_in fs) steps.0
          ∙ sym (append_assoc c.loop-four.offers.items (offers_of c.in-Some.four ∷ []) (offers_in left))
          ∙ ap (λ os. os ++ offers_in left) (sym made);
      counted = omega (arith, steps.1, ap length steps.0, i.counted);
      accepted = (subst (λ fs. AllByRecursion AreAccepted (offers_in fs)) steps.0 i.accepted).1;
    }

pub returns : goal.returns
returns c =
    let i = c.loop-four.invariant in
    let none : into_iter_items c.loop-four.four-iterator ≡ [] = nil_from_length _ (omega (arith, c.in-None.ensures.steps.0, i.counted)) in
    sym (i.split ∙ ap (λ fs. c.loop-four.offers.items ++ offers_in fs) none ∙ append-nil _)
