-- Why `have_no_summary` meets its contract, and its loop over `entry` keeps the invariant.
use Rattle.std.proofs.Common.{◌≡◌, ◌+◌, true, false, take, sym, ap, ◌∙◌, arith, ◌++◌, ◌∷◌, []}
use Rattle.std.proofs.lemmas.List.{take_more}
use Rattle.acceptor_log_form.specs.declared.record.Record.{Record}
use Rattle.acceptor_log_old.specs.OldText.{is_plain}
use Rattle.acceptor_log_old.proofs.Plain.{plain-not, plain-more}
use Rattle.acceptor_log_old.proofs.reading.have_no_summary.Goals as goal

pub returns-then-not-is_no_summary : goal.returns-then-not-is_no_summary
returns-then-not-is_no_summary c =
    let one : is_plain c.entry-item.result ≡ false = cc in
    sym (plain-not c.args.records.now c.loop-entry.entry-index c.entry-item.result (omega arith) (ap is_plain (sym c.entry-item.is) ∙ one))

pub loop-entry-preserved : goal.loop-entry-preserved
loop-entry-preserved c =
    let at = c.loop-entry.entry-index in
    let rs = c.args.records.now in
    let r = c.entry-item.result in
    let one : is_plain r ≡ true = cc in
    plain-more (take at rs) (take (at + 1) rs) r (take_more rs at r (omega arith) ∙ ap (λ (x : Record). take at rs ++ x ∷ []) (sym c.entry-item.is))
    c.loop-entry.invariant one
