use Rattle.std.proofs.Common.{take}
use Rattle.std.specs.Io.KnownBytes.{Appends}
use Rattle.cfarm_fsck.specs.Telling.{node_lines}
use Rattle.cfarm_fsck.proofs.printing.print_nodes.Given as goal

abbrev pub invariant-loop-node : goal.invariant-loop-node
invariant-loop-node g l = Appends (g.W.Write.contents l.fn.out) (g.W.Write.contents l.out) (node_lines (take l.node l.journals))
