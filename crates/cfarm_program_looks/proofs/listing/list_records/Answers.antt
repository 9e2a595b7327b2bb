-- Why `list_records` meets its clause `does`.
use Rattle.std.proofs.Common.{refl, inl, inr}
use Rattle.cfarm_program_status.specs.Telling.{quiet}
use Rattle.cfarm_program_status.proofs.Answering.{told_by}
use Rattle.cfarm_log.specs.Faults.{log_line}
use Rattle.cfarm_program_looks.specs.Listing.{list_fault}
use Rattle.cfarm_program_looks.proofs.listing.list_records.Goals as goal

pub returns-in-Ok-clause-does : goal.returns-in-Ok-clause-does
returns-in-Ok-clause-does g c = (quiet, inl (c.in-Ok.ensures.ok, refl), (refl, refl))

pub returns-in-Err-clause-does : goal.returns-in-Err-clause-does
returns-in-Err-clause-does g c =
    let fault = c.in-Err.fault in
    (list_fault fault, inr (fault, c.in-Err.ensures.stopped, refl), told_by _ _ (log_line fault) _ _ _ c.status.ensures (c.tell.ensures.told (log_line fault) refl))
