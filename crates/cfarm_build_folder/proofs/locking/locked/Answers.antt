-- Why `locked` meets its clause `unused`.
use Rattle.cfarm_files.proofs.Uses.{uses_none}
use Rattle.cfarm_build_folder.proofs.locking.locked.Goals as goal

pub returns-in_default-clause-unused : goal.returns-in_default-clause-unused
returns-in_default-clause-unused g c = uses_none (g.F.Files.used c.args.files.now)
