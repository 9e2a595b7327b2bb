-- What the check refused is what the bytes spell.
use Rattle.std.proofs.Common.{◌≢◌}
use Rattle.std.proofs.lemmas.Result.{IfErr-at_err}
use Rattle.offers.specs.declared.errors.OfferError.TheVariants.{NoMemory, Refused}
use Rattle.offers.proofs.offer.Offer.read.Goals as goal

refused_is_no_memory : Refused ≢ NoMemory
refused_is_no_memory e = cc

pub returns-clause-refused : goal.returns-clause-refused
returns-clause-refused g c e =
    let parts = c.in_ok-parts.ensures in
    let refused = IfErr-at_err _ e c.check.ensures.refused refused_is_no_memory in
    (c.in_ok-parts.parts, parts.fits, parts.spelled, refused.1)
