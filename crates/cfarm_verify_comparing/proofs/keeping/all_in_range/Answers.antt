-- One more, or all of them.
use Rattle.std.proofs.Common.{◌≤◌, length, subst, arith}
use Rattle.std.specs.Prelude.{All}
use Rattle.std.proofs.lemmas.List.Elements.{All-more}
use Rattle.bundle_reading.specs.Read.{offers_of}
use Rattle.cfarm_verify_comparing.specs.Ranges.{AreInRange}
use Rattle.cfarm_verify_comparing.proofs.Ends.{whole}
use Rattle.cfarm_verify_comparing.proofs.keeping.all_in_range.Goals as goal

pub returns : goal.returns
returns c =
    let no_more : length c.args.fours.now ≤ c.loop-four.four-index = omega (arith, c.loop-four-test.false, c.loop-four.auto.four-index-end) in
    subst (All (λ four. AreInRange (offers_of four))) (whole c.loop-four.four-index c.args.fours.now no_more) c.loop-four.invariant

pub loop-four-preserved : goal.loop-four-preserved
loop-four-preserved c =
    let here = subst (λ four. AreInRange (offers_of four)) c.four-item.is c.in_range.ensures in
    All-more (λ four. AreInRange (offers_of four)) c.args.fours.now c.loop-four.four-index c.four-item.result c.loop-four-test.true c.loop-four.invariant here
