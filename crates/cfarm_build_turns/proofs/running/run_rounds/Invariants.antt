use Rattle.std.proofs.Common.{◌≤◌, ◌+◌, ℕ}
use Rattle.std.specs.List.{AllByRecursion, AllZip}
use Rattle.farm_nodes_turn_node.specs.Asked.{MayBeAsked}
use Rattle.cfarm_build_faults.specs.Nodes.{NodeCameBack}
use Rattle.cfarm_build_turns.proofs.running.run_rounds.Given as goal

-- they come from those that began by as many turns as are not left, and may take more
abbrev pub invariant-loop-left : goal.invariant-loop-left
invariant-loop-left g l = record {
  done : ℕ;
  left : done + l.left ≤ l.turns;
  fit : AllByRecursion (MayBeAsked g.D.Disk) l.nodes.items;
  came : AllZip (NodeCameBack g.D.Disk done) l.fn.nodes.items l.nodes.items;
}

abbrev pub decreases-loop-left : goal.decreases-loop-left
decreases-loop-left g l = l.left
