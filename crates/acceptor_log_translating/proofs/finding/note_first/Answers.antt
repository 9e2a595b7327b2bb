-- Why `note_first` meets its clauses `noted` and `shorter`.
use Rattle.std.proofs.Common.{length, ap, arith}
use Rattle.std.proofs.lemmas.List.{length-append}
use Rattle.acceptor_log_form.specs.Text.{block_text}
use Rattle.acceptor_log_translating.proofs.FoundNext.{more_found}
use Rattle.acceptor_log_translating.proofs.finding.note_first.Goals as goal

pub overflow_sub-place-2 : goal.overflow_sub-place-2
overflow_sub-place-2 c = omega (arith, c.requires.within, ap length c.in_ok-entry.ensures.text, length-append (block_text c.in_ok-entry.entry) c.in_ok-entry.after.now)

pub returns-in-Ok-clause-noted : goal.returns-in-Ok-clause-noted
returns-in-Ok-clause-noted c rs read fit was =
    more_found c.args.header.now c.args.bytes.now c.args.behind.now c.in_ok-entry.after.now rs c.in_ok-entry.entry _ _ _ c.in-Ok.ensures
    read fit was c.in_ok-entry.ensures.text c.in_ok-entry.ensures.fits (omega arith) (omega arith)

pub returns-in-Ok-clause-shorter : goal.returns-in-Ok-clause-shorter
returns-in-Ok-clause-shorter c = omega (arith, ap length c.in_ok-entry.ensures.text, length-append (block_text c.in_ok-entry.entry) c.in_ok-entry.after.now)
