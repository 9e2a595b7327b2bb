use Rattle.std.proofs.Common.{◌≡◌, ◌≤◌, ◌++◌, List, length}
use Rattle.std.specs.Prelude.{All}
use Rattle.acceptor_log_form.specs.declared.record.Record.{Record}
use Rattle.acceptor_log_form.specs.Text.{blocks, Fits}
use Rattle.acceptor_log_translating.specs.Found.{IsFoundIn}
use Rattle.acceptor_log_translating.proofs.finding.find.Given as goal

-- what was read stands in front of the rest
abbrev pub invariant-loop-behind : goal.invariant-loop-behind
invariant-loop-behind l = record {
  found : (rs : List Record) × (l.bytes ≡ blocks rs ++ l.rest) × All Fits rs × IsFoundIn l.header.nodes l.header.node l.bytes rs l.found;
  short : length l.rest ≤ length l.bytes;
}

abbrev pub decreases-loop-behind : goal.decreases-loop-behind
decreases-loop-behind l = length l.rest
