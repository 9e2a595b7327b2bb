use Rattle.std.proofs.Common.{◌≡◌, ℕ, ◌<◌, true}
use Rattle.farm_nodes_turn_step.specs.Served.{IsServed}
use Rattle.farm_nodes_turn_step.specs.Journalled.{HasGrown}
use Rattle.farm_nodes_turn_step.specs.Quiet.{IsQuiet, HasHeard}
use Rattle.farm_nodes_turn_step.proofs.hearing.hear_all.Given as goal

-- it has heard the nodes up to here
abbrev pub invariant-loop-j : goal.invariant-loop-j
invariant-loop-j g l = record {
  served : IsServed g.D.Disk l.initial.log l.log;
  going : l.log.going ≡ l.initial.log.going;
  heard : HasHeard l.initial.seat l.seat;
  nodes : l.j-end ≡ l.initial.seat.node.quorums.nodes;
  quiet : (i : ℕ) → i < l.j → IsQuiet i l.seat;
  journal : g.D.Disk.is_honest l.initial.log.disk → l.initial.log.going ≡ true → HasGrown g.D.Disk l.initial.log l.log l.room l.initial.seat l.seat l.moved;
}
