-- What holds the texts together, and then the texts.
use Rattle.std.proofs.Common.{subst}
use Rattle.std.proofs.lemmas.Result.{err_from_is_err_and}
use Rattle.bundle_reading.specs.Read.{AreRead}
use Rattle.bundle_reading.specs.Texts.{HaveNoOffers, bundle_with}
use Rattle.bundle_reading.proofs.Readings.{bundle_read, none_bundled}
use Rattle.cfarm_library_verify.proofs.reading.read_bundle.Goals as goal

pub returns-in_err-bundle-clause-refused : goal.returns-in_err-bundle-clause-refused
returns-in_err-bundle-clause-refused c =
    let p = err_from_is_err_and c.from_residual.result c.from_residual.ensures.1 in
    rw (p.1, p.2) (λ memory digest offers is. c.in_err-bundle.ensures.refused memory (bundle_with digest offers) is.form is.text)

pub returns-in_err-fours-clause-refused : goal.returns-in_err-fours-clause-refused
returns-in_err-fours-clause-refused c =
    let p = err_from_is_err_and c.from_residual-in_err-fours.result c.from_residual-in_err-fours.ensures.1 in
    let found = c.in_ok-bundle.bundle in
    let read = c.in_ok-bundle.ensures in
    rw (p.1, p.2) (λ memory. none_bundled c.args.bytes.now found read.fits read.spelled (subst HaveNoOffers c.as_slice.ensures (c.in_err-fours.ensures.refused memory)))

pub returns-clause-spelled : goal.returns-clause-spelled
returns-clause-spelled c =
    let found = c.in_ok-bundle.bundle in
    let read = c.in_ok-bundle.ensures in
    let fours = c.in_ok-fours.fours.items in
    bundle_read c.args.bytes.now found fours read.fits read.spelled (subst (λ ts. AreRead ts fours) c.as_slice.ensures c.in_ok-fours.ensures.read)
