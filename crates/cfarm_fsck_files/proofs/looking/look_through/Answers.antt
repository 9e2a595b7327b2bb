-- Why `look_through` meets its clause `does`.
use Rattle.std.proofs.Common.{refl, inl, inr}
use Rattle.cfarm_build_faults.specs.declared.error.BuildError.TheVariants.{Source}
use Rattle.cfarm_files.proofs.Uses.{uses_none}
use Rattle.cfarm_fsck_files.specs.Looking.{build_fault}
use Rattle.cfarm_fsck_files.proofs.Ready.{keeps_same, ready}
use Rattle.cfarm_fsck_files.proofs.looking.look_through.Goals as goal

pub returns-in-Err-clause-does : goal.returns-in-Err-clause-does
returns-in-Err-clause-does g c =
    let fault = c.in-Err.fault in (
      build_fault (Source fault),
      (uses_none (g.F.Files.used c.args.files.now), inl (fault, c.in-Err.ensures.refused, keeps_same _, refl, refl)),
      c.tell_build.ensures.told,
    )

pub returns-in-Ok-clause-does : goal.returns-in-Ok-clause-does
returns-in-Ok-clause-does g c =
    let it = c.tell_locked.ensures.does in
    let made = c.in-Ok.ensures in
    let is = ready _ _ made.accepted made.translated made.keeps made.names made.count made.digest in
    (it.0, (c.tell_locked.ensures.unused, inr (c.in-Ok.source, is, c.tell_locked.ensures.made, it.1)), it.2)
