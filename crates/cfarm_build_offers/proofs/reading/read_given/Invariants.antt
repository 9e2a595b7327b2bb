use Rattle.std.proofs.Common.{◌≡◌, length}
use Rattle.cfarm_build_offers.proofs.reading.read_given.Given as goal

-- each node before this one has what it is given
abbrev pub invariant-loop-node : goal.invariant-loop-node
invariant-loop-node g l = length l.made.items ≡ l.node
