use Rattle.std.proofs.Common.{◌≡◌, true, take}
use Rattle.acceptor_log_old.specs.OldText.{are_plain}
use Rattle.acceptor_log_old.proofs.reading.have_no_summary.Given as goal

abbrev pub invariant-loop-entry : goal.invariant-loop-entry
invariant-loop-entry l = are_plain (take l.entry-index l.records) ≡ true
