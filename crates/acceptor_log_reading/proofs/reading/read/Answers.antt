-- Where the records are none, so are those of the journal.
use Rattle.std.proofs.Common.{sym, ap, ◌∙◌, subst, List, ℕ}
use Rattle.std.proofs.lemmas.Result.{err_from_is_err_and}
use Rattle.acceptor_log_form.specs.Text.{header_size}
use Rattle.acceptor_log_form.specs.Fault.{HasFault}
use Rattle.acceptor_log_form.specs.Reading.{records_behind}
use Rattle.acceptor_log_form.proofs.Blocks.{records_behind-drop}
use Rattle.acceptor_log_reading.proofs.reading.read.Goals as goal

pub returns-in_err-found-clause-refused : goal.returns-in_err-found-clause-refused
returns-in_err-found-clause-refused c =
    let p = err_from_is_err_and c.from_residual-in_err-found.result c.from_residual-in_err-found.ensures.1 in
    rw (p.1, p.2) (λ memory.
    let refused = c.in_err-found.ensures.refused memory in
    subst (HasFault c.args.header.now c.args.bytes.now) (sym refused.0)
    (c.in_ok-behind.ensures.form, c.in_ok-behind.ensures.header, records_behind-drop header_size c.args.bytes.now ∙ ap (λ (l : List ℕ). records_behind 0 l) (sym c.in_ok-behind.ensures.behind) ∙ refused.1))
