-- Why the loop of `hear_all` over `j` keeps the invariant.
use Rattle.cfarm_settle_nodes.proofs.Going.{stays_still, stays_through}
use Rattle.cfarm_settle_nodes.proofs.node.hear_all.Goals as goal

pub loop-j-init : goal.loop-j-init
loop-j-init g c = stays_still c.args.seat.now

pub loop-j-preserved : goal.loop-j-preserved
loop-j-preserved g c = stays_through c.args.seat.now c.loop-j.seat c.hear-is_new_here.new.seat c.loop-j.invariant c.hear-is_new_here.ensures
