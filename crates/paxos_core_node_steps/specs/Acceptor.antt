-- The acceptor (Lamport, Paxos Made Simple, section 2.2): phase 1b promises to take no lower ballot, and reports its
-- vote; phase 2b votes for what is proposed, unless it has promised a higher ballot.
use Rattle.std.specs.Prelude.{ℕ, nat_lt, nat_le, Bool, ◌&&◌, if◌then◌else◌, Option, Some, None}
use Rattle.paxos_core_world.specs.KeptPart.{with_promise, with_vote}
use Rattle.paxos_core_world.specs.declared.msg.Msg.{Msg}
use Rattle.paxos_core_world.specs.declared.msg.Msg.TheVariants.{Promise, Accepted}
use Rattle.paxos_core_world.specs.declared.vote.Vote.{Vote}
use Rattle.paxos_core_node_steps.specs.NodeState.{NodeState}

-- a vote that can be: under a ballot from 1, for the number of one of n nodes
abbrev pub is_vote : ℕ → Vote → Bool
is_vote n x = nat_lt 0 x.ballot && nat_lt x.value n

-- the node promises the ballot
abbrev pub promises : NodeState → ℕ → Bool
promises s b = nat_lt s.kept.promised b

-- phase 1b: its answer to Prepare(b)
abbrev pub promise_to : NodeState → ℕ → Option Msg
promise_to s b = if promises s b then Some (Promise s.me b s.kept.accepted) else None

-- after Prepare(b)
abbrev pub after_prepare : NodeState → ℕ → NodeState
after_prepare s b = if promises s b then record s { kept = with_promise b s.kept } else s

-- the node votes as it was asked
abbrev pub accepts : NodeState → Vote → Bool
accepts s x = is_vote s.quorums.nodes x && nat_le s.kept.promised x.ballot

-- phase 2b: its answer to the proposal of a vote
abbrev pub vote_for : NodeState → Vote → Option Msg
vote_for s x = if accepts s x then Some (Accepted s.me x.ballot x.value) else None

-- after that proposal
abbrev pub after_propose : NodeState → Vote → NodeState
after_propose s x = if accepts s x then record s { kept = with_vote x s.kept } else s
