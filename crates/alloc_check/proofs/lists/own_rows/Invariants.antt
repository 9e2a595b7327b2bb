use Rattle.std.proofs.Common.{◌≡◌, ◌++◌, drop}
use Rattle.alloc_check.specs.Rows.{rows_from}
use Rattle.alloc_check.proofs.lists.own_rows.Given as goal

abbrev pub invariant-loop-n : goal.invariant-loop-n
invariant-loop-n l = l.rows.items ++ rows_from l.feeders l.n (drop l.n l.lists) ≡ rows_from l.feeders 0 l.lists
