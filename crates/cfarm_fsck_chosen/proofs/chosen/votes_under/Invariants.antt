use Rattle.std.proofs.Common.{◌≡◌, ◌≤◌, take}
use Rattle.cfarm_fsck_chosen.specs.Chosen.{votes_under}
use Rattle.cfarm_fsck_chosen.proofs.chosen.votes_under.Given as goal

abbrev pub invariant-loop-number : goal.invariant-loop-number
invariant-loop-number l = record {
  count : l.votes ≡ votes_under l.ballot (take l.number l.nodes);
  most : l.votes ≤ l.number;
}
