use Rattle.std.proofs.Common.{take}
use Rattle.linearize_check.specs.Faults.{IsFreshAt, TellsLowest}
use Rattle.linearize_check_layout.specs.Marks.{AreMarked}
use Rattle.linearize_check.proofs.faults.lowest_repeated.Given as goal

abbrev pub invariant-loop-node : goal.invariant-loop-node
invariant-loop-node l = TellsLowest (IsFreshAt l.order) l.order l.node-index l.found × AreMarked l.listed (take l.node-index l.order)
