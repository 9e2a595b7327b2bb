-- Why `put_native` meets its clause `does` where it puts nothing.
use Rattle.std.proofs.Common.{refl, inl, inr}
use Rattle.cfarm_files.specs.declared.fault.FileFault.TheVariants.{Refused}
use Rattle.cfarm_files.specs.declared.reason.Reason.TheVariants.{Unsaid}
use Rattle.cfarm_program_status.specs.Reading.{unread}
use Rattle.cfarm_program_status.specs.Telling.{no_memory}
use Rattle.cfarm_program_native.proofs.Placing.{keeps_same}
use Rattle.cfarm_program_native.proofs.writing.put_native.Goals as goal

pub returns-then-is_kept-clause-does : goal.returns-then-is_kept-clause-does
returns-then-is_kept-clause-does g c =
    let kept = c.in-Ok.ensures.kept c.if-is_kept.true in
    (unread c.args.target.now (Refused Unsaid), inl (inl (kept, refl), keeps_same _), c.tell_unread.ensures.told)

pub returns-in-Err-clause-does : goal.returns-in-Err-clause-does
returns-in-Err-clause-does g c = (no_memory, inl (inr refl, keeps_same _), c.tell_no_memory.ensures.told)
