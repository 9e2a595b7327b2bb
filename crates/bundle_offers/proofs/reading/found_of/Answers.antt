-- What the pass answers of the parts.
use Rattle.bundle_offers.proofs.Standings.{accepted_of}
use Rattle.bundle_offers.proofs.reading.found_of.Goals as goal

pub returns-in-Ok-clause-told : goal.returns-in-Ok-clause-told
returns-in-Ok-clause-told g c = accepted_of c.args.at g.P.Pass.accepts g.S.Reasons.tells c.in-Ok.parts c.accepted-told.result c.accepted-told.ensures.ok c.accepted-told.ensures.refused
