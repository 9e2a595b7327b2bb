use Rattle.std.proofs.Common.{◌≡◌, length}
use Rattle.farm_nodes.proofs.giving.optimisers_of.Given as goal

-- so many nodes have theirs
abbrev pub invariant-loop-node : goal.invariant-loop-node
invariant-loop-node l = length l.made.items ≡ l._node
