-- What a seat would do if it were asked, told before it does it, and what is so once it was asked.
use Rattle.std.specs.Prelude.{◌≡◌, ◌≢◌, ℕ, ◌<◌, Option, Some, None, IfSome}
use Rattle.std.specs.Option.{option_map}
use Rattle.paxos_core_world.specs.declared.vote.Vote.{Vote}
use Rattle.paxos_core_node_steps.specs.declared.step.Act.{Act as CoreAct}
use Rattle.paxos_core_node_steps.specs.declared.step.Act.TheVariants as core_act
use Rattle.paxos_core_node_steps.specs.declared.step.Step.{Step}
use Rattle.paxos_core_node_steps.specs.declared.step.Step.TheVariants as step
use Rattle.paxos_core_node_steps.specs.Proposer.{next_proposal}
use Rattle.paxos_core_node_steps.specs.Would.{next_start, kept_by_step}
use Rattle.rooms_seat_state.specs.declared.act.SeatAct.{SeatAct}
use Rattle.rooms_seat_state.specs.declared.act.SeatAct.TheVariants as act
use Rattle.rooms_seat_state.specs.Did.{Did}
use Rattle.rooms_seat_state.specs.SeatState.{SeatState, promise_of, vote_of}

-- what it is asked of is a node of n
abbrev pub IsAmong : ℕ → SeatAct → Type 0
IsAmong n act.Start = Unit {0}
IsAmong n (act.Promise j) = j < n
IsAmong n act.Propose = Unit {0}
IsAmong n (act.Accept j) = j < n

-- the step that it would take
abbrev pub would : SeatState → SeatAct → Option Step
would s act.Start = option_map step.Start (next_start s.node)
would s (act.Promise j) = option_map step.Promise (promise_of s j)
would s act.Propose = option_map (λ (p : ℕ × ℕ). step.Propose p.0 p.1) (next_proposal s.node)
would s (act.Accept j) = option_map (λ (x : Vote). step.Accept x.ballot x.value) (vote_of s j)

-- what its node does to take that step
abbrev pub act_of : Step → CoreAct
act_of (step.Start b) = core_act.Start
act_of (step.Promise b) = core_act.Promise b
act_of (step.Propose b v) = core_act.Propose
act_of (step.Accept b v) = core_act.Accept b v

-- what it has proposed then under the ballot started last
abbrev pub proposed_by_step : Step → Option ℕ → Option ℕ
proposed_by_step (step.Start b) p = None
proposed_by_step (step.Promise b) p = p
proposed_by_step (step.Propose b v) p = Some v
proposed_by_step (step.Accept b v) p = p

-- the ballot that is under way after a start
abbrev pub IsStarted : Option Step → SeatState → Type 0
IsStarted (Some (step.Start b)) s = (s.node.ballot ≡ Some b) × (s.node.kept.promised < b)
IsStarted other s = Unit {0}

-- nothing is proposed any more: it was asked to propose, or has started a ballot, under which no promise is noted yet
abbrev pub ProposesNoMore : SeatAct → Option Step → SeatState → Type 0
ProposesNoMore act.Start told s = told ≢ None → would s act.Propose ≡ None
ProposesNoMore act.Propose told s = would s act.Propose ≡ None
ProposesNoMore other told s = Unit {0}

-- the seat was asked: it took the step that it told, and if it told none it is as it was
pub record Acted (a : SeatAct) (old new : SeatState) : Type 0 where
  pub stepped : IfSome (would old a) (λ s. Did (act_of s) (proposed_by_step s old.proposed) old new)
  pub idle : would old a ≡ None → new ≡ old
  pub kept : new.node.kept ≡ kept_by_step (would old a) old.node.kept
  pub table : new.table ≡ old.table
  pub me : new.node.me ≡ old.node.me
  pub quorums : new.node.quorums ≡ old.node.quorums
  pub learned : new.node.learned ≡ old.node.learned
  pub proposers : new.proposers ≡ old.proposers
  pub acceptors : new.acceptors ≡ old.acceptors
  pub under_way : IsStarted (would old a) new
  pub no_more : ProposesNoMore a (would old a) new
