use Rattle.std.proofs.Common.{◌≡◌, ◌++◌, length, true}
use Rattle.std.specs.Prelude.{All}
use Rattle.acceptor_log_form.specs.Text.{blocks, Fits}
use Rattle.cfarm_log.specs.Forms.{all_had}
use Rattle.cfarm_log.proofs.front.read_front.Given as goal

-- what was read stands in front of the rest
abbrev pub invariant-loop-behind : goal.invariant-loop-behind
invariant-loop-behind l = record {
  read : l.bytes ≡ blocks l.records.items ++ l.rest;
  fits : All Fits l.records.items;
  had : all_had l.version l.records.items ≡ true;
}

abbrev pub decreases-loop-behind : goal.decreases-loop-behind
decreases-loop-behind l = length l.rest
