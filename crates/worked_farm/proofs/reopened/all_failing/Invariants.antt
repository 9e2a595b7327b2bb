use Rattle.std.proofs.Common.{◌≡◌, length}
use Rattle.worked_farm.proofs.reopened.all_failing.Given as goal

-- so many nodes have theirs
abbrev pub invariant-loop-node : goal.invariant-loop-node
invariant-loop-node l = length l.disks.items ≡ l._node
