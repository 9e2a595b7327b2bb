use Rattle.std.proofs.Common.{ℕ, ◌<◌, IfSome}
use Rattle.paxos_core_world.specs.Settled.{PairSettled}
use Rattle.paxos_core_world.specs.World.{nodes_of}
use Rattle.paxos_core_theorem.proofs.settled.vote_stands.Given as goal

abbrev pub invariant-loop-other : goal.invariant-loop-other
invariant-loop-other l =
    (j : ℕ) → j < l.other-index → IfSome (nodes_of l.parts j).accepted (PairSettled l.quorums (nodes_of l.parts) l.vote)
