-- The records are those that are made of the old ones.
use Rattle.std.proofs.Common.{List, ℕ, sym, subst, arith}
use Rattle.acceptor_log_form.specs.Text.{StandsFor}
use Rattle.acceptor_log_old.specs.Migrated.{migrated}
use Rattle.cfarm_fsck_journals.proofs.ReadFiles.{one_reading}
use Rattle.cfarm_fsck_journals.proofs.journal.old_journal.Goals as goal

pub returns-in-Ok-new_journal-clause-migrated : goal.returns-in-Ok-new_journal-clause-migrated
returns-in-Ok-new_journal-clause-migrated c =
    let h = c.args.header.now in
    let of = c.in-Ok.ensures.made in
    let text = c.in-Ok.text in
    let found = c.in-Ok-new_journal.found.1.items in
    let stands : StandsFor h (migrated of.0) text.bytes.items =
    subst (λ (b : List ℕ). StandsFor h (migrated of.0) b) (sym of.2.bytes_are) (c.text_stands.ensures h (migrated of.0) (omega (arith, of.2.head)) of.2.fits) in
    let read : StandsFor h found text.bytes.items = subst (λ (b : List ℕ). StandsFor h found b) c.deref.ensures.value c.in-Ok-new_journal.ensures.stands in
    (of.0, of.1, one_reading h found (migrated of.0) text.bytes.items (c.one_list.ensures h found text.bytes.items read) (c.one_list.ensures h (migrated of.0) text.bytes.items stands))
