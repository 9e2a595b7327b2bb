-- What a node notes of the others' promises and votes, and the learner (Lamport, Paxos Made Simple, section 2.3): a
-- value is learned once an accept quorum has voted under one ballot.
use Rattle.std.specs.Prelude.{ℕ, ◌==◌, nat_lt, nat_le, Bool, true, false, ◌&&◌, if◌then◌else◌, List, Option, Some, None, slice_set}
use Rattle.paxos_core_world.specs.Quorum.{is_accept_quorum}
use Rattle.paxos_core_world.specs.declared.vote.Vote.{Vote}
use Rattle.paxos_core_node_steps.specs.Acceptor.{is_vote}
use Rattle.paxos_core_node_steps.specs.NodeState.{NodeState}
use Rattle.paxos_core_node_steps.specs.Notes.{note_of, has_voted}

-- a report that can come with a promise for ballot b: no vote, or one under a lower ballot
abbrev pub is_report : ℕ → ℕ → Option Vote → Bool
is_report n b None = true
is_report n b (Some x) = is_vote n x && nat_lt x.ballot b

-- the ballot is the one under way
abbrev pub is_under_way : Option ℕ → ℕ → Bool
is_under_way None b = false
is_under_way (Some c) b = c == b

-- a promise of node a is noted: it can be, and is for the ballot under way
abbrev pub notes_promise : NodeState → ℕ → ℕ → Option Vote → Bool
notes_promise s a b report = nat_lt 0 b && (nat_lt a s.quorums.nodes && (is_report s.quorums.nodes b report && is_under_way s.ballot b))

-- after Promise(a, b, report)
abbrev pub after_promise : NodeState → ℕ → ℕ → Option Vote → NodeState
after_promise s a b report =
    if notes_promise s a b report then record s { promises = slice_set s.promises a (Some report) } else s

-- the vote noted is not above ballot b
abbrev pub is_at_most : Option Vote → ℕ → Bool
is_at_most None b = true
is_at_most (Some x) b = nat_le x.ballot b

-- a vote of node a is noted: it can be, and no vote of a higher ballot is noted of a
abbrev pub notes_vote : NodeState → ℕ → Vote → Bool
notes_vote s a x = nat_lt a s.quorums.nodes && (is_vote s.quorums.nodes x && is_at_most (note_of s.votes a) x.ballot)

-- the votes, once that one is noted
abbrev pub votes_with : NodeState → ℕ → Vote → List (Option Vote)
votes_with s a x = slice_set s.votes a (Some x)

-- what was learned first stays; else the vote's value is learned once an accept quorum has voted under its ballot
abbrev pub learned_with : Option ℕ → Bool → ℕ → Option ℕ
learned_with (Some u) quorum v = Some u
learned_with None true v = Some v
learned_with None false v = None

-- the node, once that vote is noted
abbrev pub voted : NodeState → ℕ → Vote → NodeState
voted s a x =
    record s {
      votes = votes_with s a x;
      learned = learned_with s.learned (is_accept_quorum s.quorums (has_voted (votes_with s a x) x.ballot)) x.value;
    }

-- after Accepted(a, x)
abbrev pub after_vote : NodeState → ℕ → Vote → NodeState
after_vote s a x = if notes_vote s a x then voted s a x else s
