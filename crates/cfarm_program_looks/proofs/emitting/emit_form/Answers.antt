-- Why `emit_form` meets its clause `does`.
use Rattle.std.proofs.Common.{refl, inl, inr}
use Rattle.cfarm_program_status.specs.Telling.{quiet}
use Rattle.cfarm_program_status.proofs.Answering.{told_by}
use Rattle.cfarm_emit.specs.Lines.{emit_line}
use Rattle.cfarm_program_looks.specs.Emitting.{emit_fault}
use Rattle.cfarm_program_looks.proofs.emitting.emit_form.Goals as goal

pub returns-in-Ok-clause-does : goal.returns-in-Ok-clause-does
returns-in-Ok-clause-does g c = (quiet, inl (c.in-Ok.ensures.emitted, refl), (refl, refl))

pub returns-in-Err-clause-does : goal.returns-in-Err-clause-does
returns-in-Err-clause-does g c =
    let fault = c.in-Err.fault in
    (emit_fault fault, inr (fault, c.in-Err.ensures.refused, c.in-Err.ensures.printed, refl), told_by _ _ (emit_line fault) _ _ _ c.status-status.ensures (c.tell.ensures.told (emit_line fault) refl))
