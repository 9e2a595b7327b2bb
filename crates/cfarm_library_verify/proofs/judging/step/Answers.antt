-- What is told of an offer that stands or does not.
use Rattle.cfarm_library_verify.proofs.judging.step.Goals as goal

pub returns-in-Ok : goal.returns-in-Ok
returns-in-Ok g c = (c.in-Ok.ensures.chained, c.in-Ok.ensures.accepted)

pub returns-in-Err : goal.returns-in-Err
returns-in-Err g c = c.in-Err.ensures.refused
