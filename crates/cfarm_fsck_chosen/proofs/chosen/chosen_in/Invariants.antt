use Rattle.std.proofs.Common.{◌≡◌, drop}
use Rattle.cfarm_fsck_chosen.specs.Chosen.{chosen_from}
use Rattle.cfarm_fsck_chosen.proofs.chosen.chosen_in.Given as goal

-- none of the first nodes has a vote with a quorum
abbrev pub invariant-loop-number : goal.invariant-loop-number
invariant-loop-number l = chosen_from l.accept l.nodes l.nodes ≡ chosen_from l.accept l.nodes (drop l.number l.nodes)
