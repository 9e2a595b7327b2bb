use Rattle.std.proofs.Common.{◌≡◌, ◌++◌, take}
use Rattle.acceptor_log_form.specs.Text.{blocks}
use Rattle.acceptor_log_writing.proofs.putting.write_blocks.Given as goal

abbrev pub invariant-loop-entry : goal.invariant-loop-entry
invariant-loop-entry l = l.out.items ≡ l.fn.out.items ++ blocks (take l.entry-index l.records)
