-- Each text is what its thread read.
use Rattle.std.proofs.Common.{subst}
use Rattle.bundle_offers.specs.Found.{IsFirst, IsFourth, IsSecond, IsThird}
use Rattle.bundle_offers.proofs.reading.found_beside.Goals as goal

pub returns : goal.returns
returns g c =
    let found = c.join-front.result in
    let front = c.join-front.ensures.first in
    let back = c.join-front.ensures.second in
    c.joined.ensures c.args.texts.now
    (subst (λ l. IsFirst l found.0.0) c.as_slice-first.ensures front.0, subst (λ l. IsSecond l found.0.1) c.as_slice-second.ensures front.1)
    (subst (λ l. IsThird l found.1.0) c.as_slice-third.ensures back.0, subst (λ l. IsFourth l found.1.1) c.as_slice-fourth.ensures back.1)
