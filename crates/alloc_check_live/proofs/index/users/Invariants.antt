use Rattle.alloc_check_live.specs.Liveness.{used_of}
use Rattle.alloc_check_live.proofs.Tables.{IsIndexBelow}
use Rattle.alloc_check_live.proofs.index.users.Given as goal

abbrev pub invariant-loop-n : goal.invariant-loop-n
invariant-loop-n l = IsIndexBelow used_of l.nodes l.registers l.n l.lists.items
