-- Why the loop of `lay_out` over `node` keeps the invariant.
use Rattle.linearize_check_layout.proofs.Stretches.{order_code_more}
use Rattle.linearize_check_layout.proofs.layout.lay_out.Goals as goal

pub loop-node-preserved : goal.loop-node-preserved
loop-node-preserved c =
    order_code_more c.loop-node.code.items c.push_stretch.new.code.items _ c.args.blocks.now c.in-Some.node.now c.in-Some.behind.now c.in_ok-push_stretch.ensures (rw c.in-Some.ensures.cases.0 at c.loop-node.invariant)
