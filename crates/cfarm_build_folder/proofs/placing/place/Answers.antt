-- The path that is told is that of the program's file.
use Rattle.std.proofs.Common.{inl, subst}
use Rattle.cfarm_files.proofs.Uses.{uses_none}
use Rattle.cfarm_build_folder.specs.Disks.{IsRefusedAt}
use Rattle.cfarm_build_folder.proofs.Making.{keeps_same}
use Rattle.cfarm_build_folder.proofs.placing.place.Goals as goal

pub returns-in-Err-clause-refused : goal.returns-in-Err-clause-refused
returns-in-Err-clause-refused g c = subst (λ path. IsRefusedAt path c.told_at.result) c.in-Ok.ensures c.told_at.ensures

-- nothing was put yet
pub returns-in_default-clause-whole : goal.returns-in_default-clause-whole
returns-in_default-clause-whole g c = inl (keeps_same (g.F.Files.placed c.args.files.now))

pub returns-in_default-clause-unused : goal.returns-in_default-clause-unused
returns-in_default-clause-unused g c = uses_none (g.F.Files.used c.args.files.now)
