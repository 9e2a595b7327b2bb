-- Why the loop of `all_texts` over `number` keeps the invariant.
use Rattle.std.proofs.Common.{◌≡◌, sym, ap, ◌∙◌, subst}
use native.Mathlib.Numerals.{unary_clauses}
use Rattle.bundle_form.specs.Form.{TextsFit}
use Rattle.bundle_reading.specs.LentOffers.{lent_offers}
use Rattle.bundle_reading.specs.Texts.{texts_of, OffersFit}
use Rattle.cfarm_emit.proofs.Outputs.{all_push, all_taken, map_next, same_lent}
use Rattle.cfarm_emit.proofs.offering.all_texts.Goals as goal

pub loop-number-preserved : goal.loop-number-preserved
loop-number-preserved c =
    let done = c.loop-number in
    let o = c.index-offers-number.result in
    let t = c.in_ok-texts_of.field-0 in
    let same = same_lent o c.chain.result c.chain.ensures in
    let one : t ≡ texts_of o = c.in_ok-texts_of.ensures.texts ∙ ap texts_of same in
    let more = map_next texts_of done.texts.items t c.args.offers.now done.number o c.loop-number-test.true c.index-offers-number.is done.invariant.0 one in
    let blocks = all_push TextsFit done.texts.items t done.invariant.1 c.in_ok-texts_of.ensures.blocks in
    let fit = all_taken OffersFit c.args.offers.now done.number o c.loop-number-test.true c.index-offers-number.is done.invariant.2 (subst OffersFit same c.in_ok-texts_of.ensures.fit) in
    rw c.in_ok-push.ensures.items (simp unary_clauses (more, blocks, fit))
