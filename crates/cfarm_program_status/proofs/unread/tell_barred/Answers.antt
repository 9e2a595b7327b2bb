-- Why `tell_barred` meets its clause `told`.
use Rattle.std.specs.Prelude.{false}
use Rattle.std.proofs.Common.{refl}
use Rattle.cfarm_files.specs.Reasons.{file_line}
use Rattle.cfarm_files.specs.declared.reason.Reason.TheVariants.{Unsaid}
use Rattle.cfarm_program_status.proofs.Answering.{among}
use Rattle.cfarm_program_status.proofs.unread.tell_barred.Goals as goal

pub returns-clause-told : goal.returns-clause-told
returns-clause-told g c =
    let line = file_line c.args.path.now Unsaid in
    among c.args.is_seen false _ _ _ line _ _ _ refl (λ unseen. refl) c.of_barred-behind.ensures (c.tell_among.ensures.told line refl)
