use Rattle.std.proofs.Common.{◌≡◌, ◌++◌, drop}
use Rattle.rtl_passes_marks.specs.Tables.{feeders_from}
use Rattle.rtl_passes_marks.proofs.marks.read_off.Given as goal

abbrev pub invariant-loop-node : goal.invariant-loop-node
invariant-loop-node l = l.feeders.items ++ feeders_from l.entry l.node (drop l.node l.table) ≡ feeders_from l.entry 0 l.table
