use Rattle.std.proofs.Common.{◌≡◌, ◌+◌, ◌<◌, length, take}
use Rattle.std.specs.Prelude.{All}
use Rattle.acceptor_log_form.specs.Text.{blocks, Fits}
use Rattle.acceptor_log_writing.proofs.putting.has_space.Given as goal

-- behind those that fit so far the next gate stands, and there is space for it
abbrev pub invariant-loop-entry : goal.invariant-loop-entry
invariant-loop-entry l = record {
  next : l.next ≡ l.gate + length (blocks (take l.entry-index l.entries));
  space : l.next < 4294967295;
  fit : All Fits (take l.entry-index l.entries);
}
