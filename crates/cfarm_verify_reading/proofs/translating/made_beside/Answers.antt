-- What the threads made has a spelling, since the functions have C names.
use Rattle.cfarm_verify_reading.proofs.translating.made_beside.Goals as goal

pub returns-in-Some-clause-fits : goal.returns-in-Some-clause-fits
returns-in-Some-clause-fits g c = c.in-Some.ensures.fits c.requires.names
