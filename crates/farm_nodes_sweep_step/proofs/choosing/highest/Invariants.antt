use Rattle.std.proofs.Common.{◌≡◌}
use Rattle.farm_nodes_sweep_step.specs.Next.{asked_of}
use Rattle.farm_nodes_sweep_step.proofs.Best.{IsBest}
use Rattle.farm_nodes_sweep_step.proofs.choosing.highest.Given as goal

-- what is found of the nodes up to here
abbrev pub invariant-loop-j : goal.invariant-loop-j
invariant-loop-j l = (l.j-end ≡ l.seat.node.quorums.nodes) × IsBest (asked_of l.answer) l.j l.seat l.best
