use Rattle.std.proofs.Common.{◌≡◌, ◌++◌, take}
use Rattle.acceptor_log_form.specs.Text.{header_text, blocks}
use Rattle.acceptor_log_form.proofs.writing.journal_bytes.Given as goal

abbrev pub invariant-loop-entry : goal.invariant-loop-entry
invariant-loop-entry l = l.bytes.items ≡ header_text l.header ++ blocks (take l.entry-index l.records)
