-- The first fault is told by its function's name.
use Rattle.bundle_reading.specs.Read.{offers_in}
use Rattle.bundle_offers.proofs.Standings.{fault_below}
use Rattle.cfarm_verify.proofs.Told.{named_fault}
use Rattle.cfarm_library_verify.proofs.checking.all_stand.Goals as goal

pub returns-in-Err-clause-refused : goal.returns-in-Err-clause-refused
returns-in-Err-clause-refused c =
    named_fault c.args.functions.now (offers_in c.args.fours.now) c.in-Err.number c.in-Err.fault c.faulty.result c.in-Err.ensures.first c.faulty.ensures

pub faulty-requires-clause-number : goal.faulty-requires-clause-number
faulty-requires-clause-number c = fault_below c.args.functions.now (offers_in c.args.fours.now) c.in-Err.number c.in-Err.fault c.in-Err.ensures.first
