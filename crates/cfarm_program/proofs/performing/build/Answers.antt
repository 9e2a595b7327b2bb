-- Why `build` meets its clause `does`.
use Rattle.std.proofs.Common.{refl, inl, inr, sym, subst}
use Rattle.cfarm_files.proofs.Uses.{uses_none}
use Rattle.cfarm_files.specs.declared.fault.FileFault.TheVariants.{Refused}
use Rattle.cfarm_files.specs.declared.reason.Reason.TheVariants.{Unsaid}
use Rattle.cfarm_program_status.specs.Reading.{unread}
use Rattle.cfarm_program_status.specs.Telling.{no_memory}
use Rattle.cfarm_program_status.proofs.Answering.{plainly}
use Rattle.cfarm_own_files.specs.Barred.{IsBarred}
use Rattle.cfarm_program.proofs.Placing.{keeps_same}
use Rattle.cfarm_program.proofs.performing.build.Goals as goal

pub returns-in-Ok-None-clause-does : goal.returns-in-Ok-None-clause-does
returns-in-Ok-None-clause-does g c =
    let it = c.build_apart.ensures.does in
    (it.0, inr ((rw c.in-Ok-None.field-0-is at c.in-Ok-None.ensures.free) refl, it.1), it.2)

pub returns-in-Ok-Some-clause-does : goal.returns-in-Ok-Some-clause-does
returns-in-Ok-Some-clause-does g c =
    let at = c.in-Ok-Some.at in
    let barred = rw c.in-Ok-Some.field-0-is at c.in-Ok-Some.ensures.barred in
    let is = subst (IsBarred g.F.Files c.args.files.now c.args.asked c.args.path.now) (sym c.as_str.ensures.value) barred in
    let answer = unread c.as_str.result.now (Refused Unsaid) in
    (answer, inl (inl (c.as_str.result.now, is, refl), (keeps_same _, uses_none (g.F.Files.used c.args.files.now), refl)), c.tell_barred.ensures.told)

pub returns-in-Err-clause-does : goal.returns-in-Err-clause-does
returns-in-Err-clause-does g c =
    (no_memory, inl (inr refl, (keeps_same _, uses_none (g.F.Files.used c.args.files.now), refl)), plainly c.args.is_seen no_memory _ _ _ c.tell_no_memory.ensures.told)
