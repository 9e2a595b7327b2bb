-- The proposer (Lamport, Paxos Made Simple, section 2.2): phase 1a asks all nodes for promises under a ballot of its
-- own, and phase 2a proposes a value under it once a promise quorum has promised.
use Rattle.std.specs.Prelude.{ℕ, max, Bool, true, false, ◌&&◌, not, Option, Some, None}
use Rattle.std.specs.Option.{option_map}
use Rattle.paxos_core_world.specs.KeptPart.{with_start}
use Rattle.paxos_core_world.specs.Quorum.{is_promise_quorum}
use Rattle.paxos_core_world.specs.declared.msg.Msg.{Msg}
use Rattle.paxos_core_world.specs.declared.msg.Msg.TheVariants.{Propose}
use Rattle.paxos_core_world.specs.declared.vote.Vote.{Vote}
use Rattle.paxos_core_node_steps.specs.NextBallot.{least_above}
use Rattle.paxos_core_node_steps.specs.NodeState.{NodeState, nothing_noted}
use Rattle.paxos_core_node_steps.specs.Notes.{has_promised, highest_below}

-- the highest ballot that the node has started or promised
abbrev pub floor_of : NodeState → ℕ
floor_of s = max s.kept.started s.kept.promised

-- its least own ballot above that
abbrev pub next_ballot : NodeState → ℕ
next_ballot s = least_above s.me s.quorums.nodes (floor_of s)

-- phase 1a: that ballot is under way, with no promise noted and nothing proposed
abbrev pub started : NodeState → NodeState
started s =
    record s {
      kept = with_start (next_ballot s) s.kept;
      ballot = Some (next_ballot s);
      proposed = false;
      promises = nothing_noted;
    }

-- the value of the highest vote reported or, if none is reported, the node's own number if it has offered
abbrev pub choice : Option Vote → Bool → ℕ → Option ℕ
choice (Some vote) offered me = Some vote.value
choice None true me = Some me
choice None false me = None

-- nothing is proposed under the ballot yet, and a promise quorum has promised it
abbrev pub may_propose : NodeState → Bool
may_propose s = not s.proposed && is_promise_quorum s.quorums (has_promised s.promises)

-- ballot and value of a proposal, if there is a ballot and the node may propose
abbrev pub proposal_under : Option ℕ → Bool → Option ℕ → Option (ℕ × ℕ)
proposal_under None may value = None
proposal_under (Some ballot) false value = None
proposal_under (Some ballot) true value = option_map (λ v. (ballot, v)) value

-- the ballot and the value that the node proposes, if anything
abbrev pub next_proposal : NodeState → Option (ℕ × ℕ)
next_proposal s = proposal_under s.ballot (may_propose s) (choice (highest_below s.quorums.nodes s.promises) s.kept.offered s.me)

-- the message that proposes them
abbrev pub propose_message : Option (ℕ × ℕ) → Option Msg
propose_message None = None
propose_message (Some p) = Some (Propose p.0 p.1)

-- phase 2a: what the node sends then
abbrev pub proposal : NodeState → Option Msg
proposal s = propose_message (next_proposal s)

-- after this answer to a call of propose
abbrev pub after_answer : NodeState → Option Msg → NodeState
after_answer s None = s
after_answer s (Some message) = record s { proposed = true }

-- after a call of propose
abbrev pub after_proposal : NodeState → NodeState
after_proposal s = after_answer s (proposal s)
