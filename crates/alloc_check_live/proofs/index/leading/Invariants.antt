use Rattle.std.proofs.Common.{length}
use Rattle.alloc_check_live.specs.Liveness.{onward_of}
use Rattle.alloc_check_live.proofs.Tables.{IsIndexBelow}
use Rattle.alloc_check_live.proofs.index.leading.Given as goal

abbrev pub invariant-loop-n : goal.invariant-loop-n
invariant-loop-n l = IsIndexBelow onward_of l.nodes (length l.nodes) l.n l.lists.items
