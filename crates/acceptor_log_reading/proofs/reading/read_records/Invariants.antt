use Rattle.std.proofs.Common.{◌≡◌, ◌++◌, length}
use Rattle.std.specs.Prelude.{All}
use Rattle.acceptor_log_form.specs.Text.{blocks, Fits}
use Rattle.acceptor_log_reading.proofs.reading.read_records.Given as goal

-- what was read stands in front of the rest
abbrev pub invariant-loop-behind : goal.invariant-loop-behind
invariant-loop-behind l = record { read : l.bytes ≡ blocks l.records.items ++ l.rest; fits : All Fits l.records.items }

abbrev pub decreases-loop-behind : goal.decreases-loop-behind
decreases-loop-behind l = length l.rest
