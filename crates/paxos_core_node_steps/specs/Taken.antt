-- The steps of the protocol that each call of a node takes, the newest first.
use Rattle.std.specs.Prelude.{◌≡◌, ℕ, if◌then◌else◌, Bool, ◌&&◌, List, [], ◌∷◌, Option, Some, is_none}
use Rattle.paxos_core_world.specs.KeptPart.{vote}
use Rattle.paxos_core_world.specs.Quorum.{is_accept_quorum}
use Rattle.paxos_core_world.specs.Step.{Label, Offers, Starts, Promises, Proposes, Accepts, Learns, Restarts}
use Rattle.paxos_core_world.specs.declared.msg.Msg.{Msg}
use Rattle.paxos_core_world.specs.declared.msg.Msg.TheVariants.{Prepare, Promise, Propose, Accepted}
use Rattle.paxos_core_world.specs.declared.vote.Vote.{Vote}
use Rattle.paxos_core_node_steps.specs.declared.step.Step.{Step}
use Rattle.paxos_core_node_steps.specs.declared.step.Step.TheVariants as step
use Rattle.paxos_core_node_steps.specs.Acceptor.{promises, accepts}
use Rattle.paxos_core_node_steps.specs.Learner.{notes_vote, votes_with}
use Rattle.paxos_core_node_steps.specs.NodeState.{NodeState}
use Rattle.paxos_core_node_steps.specs.Notes.{has_voted}
use Rattle.paxos_core_node_steps.specs.Proposer.{next_ballot, proposal}

-- offer: it offers, if it had not
abbrev pub taken_by_offer : NodeState → List Label
taken_by_offer s = if s.kept.offered then [] else Offers s.me ∷ []

-- start, where a ballot is left
abbrev pub taken_by_start : NodeState → List Label
taken_by_start s = Starts s.me (next_ballot s) ∷ []

-- propose: what it proposes, if anything
abbrev pub proposes : Option Msg → List Label
proposes (Some (Propose b v)) = Proposes b v ∷ []
proposes other = []

abbrev pub taken_by_propose : NodeState → List Label
taken_by_propose s = proposes (proposal s)

-- restart
abbrev pub taken_by_restart : NodeState → List Label
taken_by_restart s = Restarts s.me ∷ []

-- the node learns from this vote: it had learned nothing, and with the vote an accept quorum has voted under its ballot
abbrev pub learns_from : NodeState → ℕ → Vote → Bool
learns_from s a x = notes_vote s a x && (is_none s.learned && is_accept_quorum s.quorums (has_voted (votes_with s a x) x.ballot))

-- on a message: it promises, accepts, or learns; to note something is no step
abbrev pub taken_on : NodeState → Msg → List Label
taken_on s (Prepare b) = if promises s b then Promises s.me b ∷ [] else []
taken_on s (Propose b v) = if accepts s (vote b v) then Accepts s.me b v ∷ [] else []
taken_on s (Promise a b report) = []
taken_on s (Accepted a b v) = if learns_from s a (vote b v) then Learns s.me v ∷ [] else []

-- at most node i learns
abbrev pub LearnsAtMost : ℕ → List Label → Type 0
LearnsAtMost i [] = Unit {0}
LearnsAtMost i (Learns j v ∷ []) = j ≡ i
LearnsAtMost i other = ⊥

-- the protocol's step that a node's step is
abbrev pub label_of : ℕ → Step → Label
label_of i (step.Start b) = Starts i b
label_of i (step.Promise b) = Promises i b
label_of i (step.Propose b v) = Proposes b v
label_of i (step.Accept b v) = Accepts i b v
