use Rattle.std.proofs.Common.{◌≡◌, ◌≤◌}
use Rattle.paxos_core_world.specs.Quorum.{count_below}
use Rattle.paxos_core_world.specs.Settled.{has_passed}
use Rattle.paxos_core_world.specs.World.{nodes_of}
use Rattle.paxos_core_theorem.proofs.settled.count_passed.Given as goal

abbrev pub invariant-loop-part : goal.invariant-loop-part
invariant-loop-part l = record {
  counted : l.count ≡ count_below l.part-index (λ a. has_passed l.vote (nodes_of l.parts a));
  most : l.count ≤ l.part-index;
}
