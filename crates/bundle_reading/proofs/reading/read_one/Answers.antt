-- What the text spells, or that it spells nothing.
use Rattle.bundle_reading.proofs.reading.read_one.Goals as goal

pub returns-in-Ok : goal.returns-in-Ok
returns-in-Ok g c = (c.in-Ok.ensures.fits, c.in-Ok.ensures.spelled)

pub returns-in-Err : goal.returns-in-Err
returns-in-Err g c = c.in-Err.ensures.refused
