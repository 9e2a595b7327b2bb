-- A disk with a journal on it, between two calls.
use Rattle.std.specs.Prelude.{◌≡◌, ℕ, ◌+◌, List, length}
use Rattle.durable_model.specs.declared.disk.Disk as disks
use Rattle.durable_model.specs.Honest.{Only}
use Rattle.acceptor_log_form.specs.declared.header.Header.{Header}
use Rattle.acceptor_log_form.specs.declared.record.Record.{Record}
use Rattle.acceptor_log_form.specs.Text.{header_size, blocks, StandsFor}

-- The disk is honest; what a read of it gives stands for these records, and their closed gate stands at `gate`; a crash
-- leaves just that.
pub record Rests {D : Type 0} (disk : disks.Ghosts D) (h : Header) (rs : List Record) (gate : ℕ) (now : D) : Type 0 where
  pub honest : disk.is_honest now
  pub stands : StandsFor h rs (disk.seen now)
  pub at_gate : gate ≡ header_size + length (blocks rs)
  pub durable : Only (disk.seen now) (disk.may_leave now)
