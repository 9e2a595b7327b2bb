-- The first fault is told by its function's name.
use Rattle.bundle_reading.specs.Read.{offers_in}
use Rattle.bundle_offers.proofs.Standings.{fault_below}
use Rattle.cfarm_verify.proofs.Told.{named_fault}
use Rattle.cfarm_verify.proofs.checking.all_stand.Goals as goal

pub returns-clause-refused : goal.returns-clause-refused
returns-clause-refused g c =
    named_fault c.args.functions.now (offers_in c.args.fours.now) c.in-Err-first_fault.number c.in-Err-first_fault.fault c.faulty.result c.in-Err-first_fault.ensures.first c.faulty.ensures

pub faulty-requires-clause-number : goal.faulty-requires-clause-number
faulty-requires-clause-number g c = fault_below c.args.functions.now (offers_in c.args.fours.now) c.in-Err-first_fault.number c.in-Err-first_fault.fault c.in-Err-first_fault.ensures.first
