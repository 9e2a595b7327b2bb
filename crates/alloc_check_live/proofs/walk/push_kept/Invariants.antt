use Rattle.std.proofs.Common.{◌≡◌, ◌++◌, take}
use Rattle.alloc_check_live.specs.Walks.{kept}
use Rattle.alloc_check_live.proofs.walk.push_kept.Given as goal

abbrev pub invariant-loop-node : goal.invariant-loop-node
invariant-loop-node l = l.pending.items ≡ l.fn.pending.items ++ kept l.nodes l.register (take l.node-index l.before)
