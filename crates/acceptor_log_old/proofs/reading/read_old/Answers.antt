-- Where the records are none, or one of them is a summary, the old journal has none.
use Rattle.std.proofs.Common.{◌≡◌, sym, ◌∙◌, subst, ap, false}
use Rattle.std.proofs.lemmas.Result.{err_from_is_err_and}
use Rattle.acceptor_log_old.specs.OldText.{are_plain}
use Rattle.acceptor_log_old.specs.OldFault.{HasOldFault}
use Rattle.acceptor_log_old.proofs.OldTexts.{old_listed-none, old_listed-cut}
use Rattle.acceptor_log_old.proofs.reading.read_old.Goals as goal

pub returns-in_err-found-clause-refused : goal.returns-in_err-found-clause-refused
returns-in_err-found-clause-refused c =
    let p = err_from_is_err_and c.from_residual-in_err-found.result c.from_residual-in_err-found.ensures.1 in
    let behind = c.in_ok-behind in
    rw (p.1, p.2) (λ memory.
    let refused = c.in_err-found.ensures.refused memory in
    subst (HasOldFault c.args.header.now c.args.bytes.now) (sym refused.0)
    (behind.ensures.form, behind.ensures.header, old_listed-cut c.args.header.now c.args.bytes.now behind.behind.now behind.ensures.behind refused.1))

pub returns-then-not-have_no_summary-clause-refused : goal.returns-then-not-have_no_summary-clause-refused
returns-then-not-have_no_summary-clause-refused c memory =
    let behind = c.in_ok-behind in
    let records = c.in_ok-found.found.records.items in
    let other : are_plain records ≡ false = cc in (
      behind.ensures.form,
      behind.ensures.header,
      old_listed-none c.args.header.now records c.args.bytes.now behind.behind.now behind.ensures.behind c.in_ok-found.ensures.ok other,
    )
