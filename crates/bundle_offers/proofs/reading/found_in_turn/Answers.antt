-- Each text is what was read.
use Rattle.std.proofs.Common.{subst}
use Rattle.bundle_offers.specs.Found.{IsFirst, IsFourth, IsSecond, IsThird}
use Rattle.bundle_offers.proofs.reading.found_in_turn.Goals as goal

pub returns : goal.returns
returns c =
    let one = c.found_of-one in
    let two = c.found_of-two in
    let three = c.found_of-three in
    let four = c.found_of-four in
    c.joined.ensures c.args.texts.now (
      subst (λ l. IsFirst l one.result) c.as_slice-first.ensures (one.ensures.text, one.ensures.told),
      subst (λ l. IsSecond l two.result) c.as_slice-second.ensures (two.ensures.text, two.ensures.told),
    ) (
      subst (λ l. IsThird l three.result) c.as_slice-third.ensures (three.ensures.text, three.ensures.told),
      subst (λ l. IsFourth l four.result) c.as_slice-fourth.ensures (four.ensures.text, four.ensures.told),
    )
