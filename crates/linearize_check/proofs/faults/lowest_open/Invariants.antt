use Rattle.linearize_check.specs.Faults.{IsClosedAt, TellsLowest}
use Rattle.linearize_check.proofs.faults.lowest_open.Given as goal

abbrev pub invariant-loop-node : goal.invariant-loop-node
invariant-loop-node l = TellsLowest (IsClosedAt l.blocks l.order) l.order l.node-index l.found
