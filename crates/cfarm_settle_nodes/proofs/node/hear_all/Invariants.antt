use Rattle.cfarm_settle_nodes.specs.Goes.{SeesNoMore}
use Rattle.cfarm_settle_nodes.proofs.node.hear_all.Given as goal

abbrev pub invariant-loop-j : goal.invariant-loop-j
invariant-loop-j g l = SeesNoMore l.initial.seat l.seat
