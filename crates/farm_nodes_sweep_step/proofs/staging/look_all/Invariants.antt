use Rattle.std.proofs.Common.{◌≡◌}
use Rattle.farm_nodes_sweep_step.specs.Staged.{HasLooked}
use Rattle.farm_nodes_sweep_step.proofs.staging.look_all.Given as goal

-- it has looked at the words of the nodes up to here
abbrev pub invariant-loop-j : goal.invariant-loop-j
invariant-loop-j l = (l.j-end ≡ l.initial.seat.node.quorums.nodes) × HasLooked l.initial.seat l.seat
