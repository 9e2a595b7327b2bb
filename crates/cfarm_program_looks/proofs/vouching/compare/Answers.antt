-- Why `compare` meets its clause `does`.
use Rattle.std.proofs.Common.{refl, inl, inr}
use Rattle.cfarm_program_status.specs.Telling.{told}
use Rattle.cfarm_program_status.proofs.Answering.{told_by}
use Rattle.cfarm_run.specs.ExecLines.{exec_line}
use Rattle.cfarm_run.specs.ExecStatuses.{status_of}
use Rattle.cfarm_program_looks.specs.Vouching.{other_line}
use Rattle.cfarm_program_looks.proofs.vouching.compare.Goals as goal

pub returns-then-is_native-clause-does : goal.returns-then-is_native-clause-does
returns-then-is_native-clause-does g c =
    let it = c.print_line.ensures.does in
    (it.0, inl (c.in-Ok.ensures.same c.if-is_native.true, it.1), it.2)

pub returns-else-is_native-clause-does : goal.returns-else-is_native-clause-does
returns-else-is_native-clause-does g c =
    let line = other_line c.args.path.now in
    (told 1 line, inr (inl (c.in-Ok.ensures.other c.if-is_native.false, refl), refl), c.tell.ensures.told line refl)

pub returns-in-Err-clause-does : goal.returns-in-Err-clause-does
returns-in-Err-clause-does g c =
    let fault = c.in-Err.fault in
    let line = exec_line fault in
    (told (status_of fault) line, inr (inr (fault, c.in-Err.ensures.unmade, refl), refl), told_by _ _ line _ _ _ c.status.ensures (c.tell-in-Err.ensures.told line refl))
