-- Why `print_native` meets its clause `does`.
use Rattle.std.proofs.Common.{refl, inl, inr}
use Rattle.cfarm_program_status.specs.Telling.{quiet}
use Rattle.cfarm_program_status.proofs.Answering.{told_by}
use Rattle.cfarm_run.specs.ExecLines.{exec_line}
use Rattle.cfarm_program_native.specs.Nativing.{native_fault}
use Rattle.cfarm_program_native.proofs.writing.print_native.Goals as goal

pub returns-in-Ok-clause-does : goal.returns-in-Ok-clause-does
returns-in-Ok-clause-does g c = (quiet, inl (c.in-Ok.ensures.written, refl), (refl, refl))

pub returns-in-Err-clause-does : goal.returns-in-Err-clause-does
returns-in-Err-clause-does g c =
    let fault = c.in-Err.fault in
    let line = exec_line fault in
    (native_fault fault, inr (fault, c.in-Err.ensures.refused, c.in-Err.ensures.printed, refl), told_by _ _ line _ _ _ c.status.ensures (c.tell.ensures.told line refl))
