-- Why `lay_out` meets its clause `does`.
use Rattle.std.proofs.Common.{refl, inl, inr}
use Rattle.cfarm_settle.specs.SettleLines.{settle_line}
use Rattle.cfarm_program_runs.specs.Outcomes.{settle_fault}
use Rattle.cfarm_program_status.specs.Telling.{quiet}
use Rattle.cfarm_program_status.proofs.Answering.{told_by}
use Rattle.cfarm_program_runs.proofs.doing.lay_out.Goals as goal

pub returns-in-Ok-clause-does : goal.returns-in-Ok-clause-does
returns-in-Ok-clause-does g c = (quiet, inl (c.in-Ok._seats, c.in-Ok.ensures.settled, refl), (refl, refl))

pub returns-in-Err-clause-does : goal.returns-in-Err-clause-does
returns-in-Err-clause-does g c =
    let fault = c.in-Err.fault in
    (settle_fault fault, inr (fault, c.in-Err.ensures.refused, refl), told_by _ _ (settle_line fault) _ _ _ c.status.ensures (c.tell.ensures.told (settle_line fault) refl))
