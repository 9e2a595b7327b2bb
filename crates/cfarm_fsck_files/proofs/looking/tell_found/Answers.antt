-- Why `tell_found` meets its clause `does`.
use Rattle.std.proofs.Common.{ℕ, List, ap, refl, inl, inr, subst, ◌∙◌}
use Rattle.cfarm_fsck.specs.declared.error.FsckError.TheVariants.{NoMemory}
use Rattle.cfarm_program_status.specs.Telling.{no_memory}
use Rattle.cfarm_fsck_files.specs.Looking.{IsFsckFault, with_lines}
use Rattle.cfarm_fsck_files.proofs.Ready.{keeps_bytes}
use Rattle.cfarm_fsck_files.proofs.looking.tell_found.Goals as goal

pub returns-in_default-clause-does : goal.returns-in_default-clause-does
returns-in_default-clause-does g c = (no_memory, inr (NoMemory, inl (keeps_bytes _), refl), c.tell_no_memory.ensures.told)

pub returns-in-Ok-fsck-clause-does : goal.returns-in-Ok-fsck-clause-does
returns-in-Ok-fsck-clause-does g c =
    let lines = ap with_lines (c.as_str.ensures.value ∙ c.in-Ok.ensures) in
    (_, inl (rw c.deref-begun.ensures at c.in-Ok-fsck.ensures, lines), c.tell_lines.ensures.told)

pub returns-in-Err-clause-does : goal.returns-in-Err-clause-does
returns-in-Err-clause-does g c =
    let it = c.tell_error.ensures.told in
    let fault = subst (λ (l : List ℕ). IsFsckFault c.args.source.now l c.in-Err.fault it.0) c.in-Ok.ensures it.1 in
    (it.0, inr (c.in-Err.fault, rw c.deref-begun.ensures at c.in-Err.ensures, fault), it.2)
