-- The bytes are those of the files.
use Rattle.std.proofs.Common.{ℕ, List, ◌≢◌, IfErr, subst}
use Rattle.acceptor_log_form.specs.declared.errors.LogError.TheVariants as log
use Rattle.cfarm_fsck_journals.specs.Listed.{AreRefusedIn}
use Rattle.cfarm_fsck_journals.proofs.journal.journal_of.Goals as goal

pub returns-clause-refused : goal.returns-clause-refused
returns-clause-refused c =
    let h = c.args.header.now in
    let r = c.journal_in.result in
    subst (λ (new : List ℕ). IfErr r (λ e. e ≢ log.NoMemory → AreRefusedIn h new c.args.files.now.old.items e)) c.deref.ensures.value
    (subst (λ (old : List ℕ). IfErr r (λ e. e ≢ log.NoMemory → AreRefusedIn h c.deref.result.now old e)) c.deref-2.ensures.value c.journal_in.ensures.refused)
