-- What a node would do if it were asked, told before it does it: the step, if it would take one.
use Rattle.std.specs.Prelude.{◌≡◌, ℕ, if◌then◌else◌, nat_le, List, [], ◌∷◌, Option, Some, None}
use Rattle.std.specs.Option.{option_map}
use Rattle.paxos_core_world.specs.KeptPart.{KeptPart, with_start, with_promise, with_vote, vote}
use Rattle.paxos_core_world.specs.Step.{Label}
use Rattle.paxos_core_world.specs.declared.msg.Msg.TheVariants.{Prepare, Propose}
use Rattle.paxos_core_world.specs.declared.vote.Vote.{Vote}
use Rattle.paxos_core_node_steps.specs.declared.step.Act.{Act}
use Rattle.paxos_core_node_steps.specs.declared.step.Act.TheVariants as act
use Rattle.paxos_core_node_steps.specs.declared.step.Step.{Step}
use Rattle.paxos_core_node_steps.specs.declared.step.Step.TheVariants as step
use Rattle.paxos_core_node_steps.specs.Acceptor.{promises, accepts}
use Rattle.paxos_core_node_steps.specs.Message.{after_message}
use Rattle.paxos_core_node_steps.specs.NextBallot.{if_ballot}
use Rattle.paxos_core_node_steps.specs.NodeState.{NodeState}
use Rattle.paxos_core_node_steps.specs.Proposer.{next_ballot, started, next_proposal, after_proposal}
use Rattle.paxos_core_node_steps.specs.Taken.{taken_by_start, taken_by_propose, taken_on, label_of}

-- the ballot that it would start: none where no own ballot is left
abbrev pub next_start : NodeState → Option ℕ
next_start s = if_ballot (next_ballot s)

-- the ballot, where it would promise it
abbrev pub next_promise : NodeState → ℕ → Option ℕ
next_promise s b = if promises s b then Some b else None

-- the vote, where it would give it
abbrev pub next_vote : NodeState → Vote → Option Vote
next_vote s x = if accepts s x then Some x else None

-- the step that it would take
abbrev pub would : NodeState → Act → Option Step
would s act.Start = option_map step.Start (next_start s)
would s (act.Promise b) = option_map step.Promise (next_promise s b)
would s act.Propose = option_map (λ (p : ℕ × ℕ). step.Propose p.0 p.1) (next_proposal s)
would s (act.Accept b v) = option_map (λ (x : Vote). step.Accept x.ballot x.value) (next_vote s (vote b v))

-- the node once it was asked
abbrev pub after_act : NodeState → Act → NodeState
after_act s act.Start = if nat_le (next_ballot s) 65535 then started s else s
after_act s (act.Promise b) = after_message s (Prepare b)
after_act s act.Propose = after_proposal s
after_act s (act.Accept b v) = after_message s (Propose b v)

-- the steps of the protocol that it takes then
abbrev pub taken_by_act : NodeState → Act → List Label
taken_by_act s act.Start = if nat_le (next_ballot s) 65535 then taken_by_start s else []
taken_by_act s (act.Promise b) = taken_on s (Prepare b)
taken_by_act s act.Propose = taken_by_propose s
taken_by_act s (act.Accept b v) = taken_on s (Propose b v)

-- the steps of the protocol that a step of node i is, where there is one
abbrev pub labels_of : ℕ → Option Step → List Label
labels_of i None = []
labels_of i (Some s) = label_of i s ∷ []

-- what a step, where there is one, makes of its node's kept part
abbrev pub kept_by_step : Option Step → KeptPart → KeptPart
kept_by_step None k = k
kept_by_step (Some (step.Start b)) k = with_start b k
kept_by_step (Some (step.Promise b)) k = with_promise b k
kept_by_step (Some (step.Propose b v)) k = k
kept_by_step (Some (step.Accept b v)) k = with_vote (vote b v) k

-- a node that told this step and is t after s took that step and no other, which alone changed what is kept; and if it told
-- none, it changed nothing
pub record IsDone (s t : NodeState) (taken : List Label) (told : Option Step) : Type 0 where
  pub steps : taken ≡ labels_of s.me told
  pub kept : t.kept ≡ kept_by_step told s.kept
  pub idle : told ≡ None → t ≡ s
