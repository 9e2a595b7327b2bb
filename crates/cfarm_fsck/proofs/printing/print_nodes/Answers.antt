-- The line of the next node is printed, or begun.
use Rattle.std.proofs.Common.{arith}
use Rattle.cfarm_fsck.specs.Telling.{journal_line}
use Rattle.cfarm_fsck.proofs.Begun.{begun_next, printed_next}
use Rattle.cfarm_fsck.proofs.printing.print_nodes.Goals as goal

pub returns-in-Err-clause-printed : goal.returns-in-Err-clause-printed
returns-in-Err-clause-printed g c =
    begun_next journal_line c.args.journals.now c.loop-node.node c.index-journals-node.result (g.W.Write.contents c.args.out.now) (g.W.Write.contents c.loop-node.out)
    (g.W.Write.contents c.print_node.new.out) (omega arith) c.index-journals-node.is c.loop-node.invariant c.in-Err.ensures.printed

pub loop-node-preserved : goal.loop-node-preserved
loop-node-preserved g c =
    printed_next journal_line c.args.journals.now c.loop-node.node c.index-journals-node.result (g.W.Write.contents c.args.out.now) (g.W.Write.contents c.loop-node.out)
    (g.W.Write.contents c.print_node.new.out) (omega arith) c.index-journals-node.is c.loop-node.invariant c.in-Ok.ensures.printed
