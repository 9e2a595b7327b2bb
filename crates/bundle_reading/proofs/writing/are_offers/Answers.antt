-- What each offer's type keeps.
use Rattle.bundle_reading.proofs.writing.are_offers.Goals as goal

pub returns-clause-accepted : goal.returns-clause-accepted
returns-clause-accepted c = record {
  constants = c.validated.ensures.accepted;
  expressions = c.validated-2.ensures.accepted;
  allocation = c.validated-3.ensures.accepted;
  order = c.validated-4.ensures.accepted;
}

pub returns-clause-fit : goal.returns-clause-fit
returns-clause-fit c = record {
  constants = c.validated.ensures.fits;
  expressions = c.validated-2.ensures.fits;
  allocation = c.validated-3.ensures.fits;
  order = c.validated-4.ensures.fits;
}
