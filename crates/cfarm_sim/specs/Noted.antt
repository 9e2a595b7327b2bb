-- What a node has noted of a message that was handed to it.
use Rattle.std.specs.Prelude.{ℕ, nat_lt, ◌==◌, ◌&&◌, Bool, false, Option, Some, None}
use Rattle.paxos_core_world.specs.declared.vote.Vote.{Vote}
use Rattle.paxos_core_world.specs.KeptPart.{vote}
use Rattle.paxos_core_world.specs.declared.msg.Msg.{Msg}
use Rattle.paxos_core_world.specs.declared.msg.Msg.TheVariants.{Prepare, Promise, Propose, Accepted}
use Rattle.paxos_core_node_steps.specs.Learner.{is_under_way}
use Rattle.paxos_core_node_steps.specs.Notes.{note_of}
use Rattle.paxos_core_node_steps.specs.NodeState.{NodeState}

-- just this vote is noted
abbrev pub is_that : Option Vote → Vote → Bool
is_that None x = false
is_that (Some y) x = (y.ballot == x.ballot) && (y.value == x.value)

-- just this vote is noted of a node
abbrev pub has_vote : NodeState → ℕ → Vote → Bool
has_vote s from x = nat_lt from s.quorums.nodes && is_that (note_of s.votes from) x

-- a promise for the ballot under way is, and a vote as the last one of its node; what is answered or refused is not
abbrev pub has_noted : NodeState → Msg → Bool
has_noted s (Prepare b) = false
has_noted s (Promise from b report) = is_under_way s.ballot b
has_noted s (Propose b v) = false
has_noted s (Accepted from b v) = has_vote s from (vote b v)
