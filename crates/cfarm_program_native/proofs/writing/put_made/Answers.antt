-- Why `put_made` meets its clauses `does` and `unused`.
use Rattle.std.proofs.Common.{refl, inl, inr}
use Rattle.cfarm_files.proofs.Uses.{uses_none}
use Rattle.cfarm_program_status.proofs.Answering.{told_by}
use Rattle.cfarm_run.specs.ExecLines.{exec_line}
use Rattle.cfarm_program_native.proofs.Placing.{keeps_same}
use Rattle.cfarm_program_native.specs.Nativing.{native_fault}
use Rattle.cfarm_program_native.proofs.writing.put_made.Goals as goal

pub returns-in-Ok-clause-does : goal.returns-in-Ok-clause-does
returns-in-Ok-clause-does g c =
    let it = rw c.deref.ensures.value at c.put_text.ensures.does in
    (it.0, inr (c.in-Ok.text.items, c.in-Ok.ensures.made, it.1), it.2)

pub returns-in-Err-clause-does : goal.returns-in-Err-clause-does
returns-in-Err-clause-does g c =
    let fault = c.in-Err.fault in
    let line = exec_line fault in
    (native_fault fault, inl ((fault, c.in-Err.ensures.refused, refl), keeps_same _), told_by _ _ line _ _ _ c.status.ensures (c.tell.ensures.told line refl))

pub returns-in-Err-clause-unused : goal.returns-in-Err-clause-unused
returns-in-Err-clause-unused g c = uses_none (g.F.Files.used c.args.files.now)
