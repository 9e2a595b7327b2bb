-- Why `tell_locked` meets its clauses `does` and `unused`.
use Rattle.std.proofs.Common.{refl, inl, inr}
use Rattle.cfarm_files.specs.declared.fault.FileFault.TheVariants.{NoMemory}
use Rattle.cfarm_files.proofs.Uses.{uses_none}
use Rattle.cfarm_program_status.specs.Telling.{no_memory}
use Rattle.cfarm_fsck_files.proofs.looking.tell_locked.Goals as goal

pub returns-in_default-clause-does : goal.returns-in_default-clause-does
returns-in_default-clause-does g c = (no_memory, inr (NoMemory, refl, refl), c.tell_no_memory.ensures.told)

pub returns-in_default-clause-unused : goal.returns-in_default-clause-unused
returns-in_default-clause-unused g c = uses_none (g.F.Files.used c.args.files.now)

pub returns-clause-does : goal.returns-clause-does
returns-clause-does g c =
    let it = c.tell_files.ensures.does in
    (it.0, inl (c.in-Ok-lock.lock, c.in-Ok-lock.ensures.covers, it.1), it.2)
