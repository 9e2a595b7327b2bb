-- Why `lines` meets its clause `does`.
use Rattle.std.proofs.Common.{refl, inl, inr}
use Rattle.cfarm_sim.specs.Lines.{schedule_line}
use Rattle.cfarm_program_runs.specs.Outcomes.{schedule_fault}
use Rattle.cfarm_program_status.specs.Telling.{quiet}
use Rattle.cfarm_program_status.proofs.Answering.{told_by}
use Rattle.cfarm_program_runs.proofs.simulating.lines.Goals as goal

pub returns-in-Ok-clause-does : goal.returns-in-Ok-clause-does
returns-in-Ok-clause-does g c = (quiet, inl (c.in-Ok.ensures.shown, refl), (refl, refl))

pub returns-in-Err-clause-does : goal.returns-in-Err-clause-does
returns-in-Err-clause-does g c =
    let fault = c.in-Err.fault in
    (schedule_fault fault, inr (fault, c.in-Err.ensures.stopped, refl), told_by _ _ (schedule_line fault) _ _ _ c.status.ensures (c.tell.ensures.told (schedule_line fault) refl))
