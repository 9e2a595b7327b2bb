use Rattle.std.proofs.Common.{◌≡◌, length}
use Rattle.cfarm_build_offers.proofs.outside.outside_of.Given as goal

-- so many nodes have theirs
abbrev pub invariant-loop-one : goal.invariant-loop-one
invariant-loop-one g l = length l.made.items ≡ length l.yielded
