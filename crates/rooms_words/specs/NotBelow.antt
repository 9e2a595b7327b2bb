-- When a word is not below another of the same node: what it shows is the same or later.
use Rattle.std.specs.Prelude.{◌≡◌, ℕ, ◌<◌, ◌≤◌, ◌⊎◌, Option, Some}
use Rattle.paxos_core_world.specs.declared.vote.Vote.{Vote}

-- a proposal of the other stands in it
abbrev pub StandsIn : Option ℕ → Option ℕ → Type 0
StandsIn other proposed = (v : ℕ) → other ≡ Some v → proposed ≡ Some v

-- a proposer's word (started, proposed) is not below (before, other): its ballot is higher, or equal with the proposal
abbrev pub ProposerNotBelow : ℕ → Option ℕ → ℕ → Option ℕ → Type 0
ProposerNotBelow started proposed before other = (before < started) ⊎ ((before ≡ started) × StandsIn other proposed)

-- a vote is not below another one: its ballot is higher, or it is the same vote
abbrev pub VoteNotBelow : Option Vote → Option Vote → Type 0
VoteNotBelow accepted other =
    (x : Vote) → other ≡ Some x → (y : Vote) × (accepted ≡ Some y) × ((x.ballot < y.ballot) ⊎ (x ≡ y))

-- an acceptor's word (promised, accepted) is not below (before, other): neither ballot is lower, and equal accepted ballots
-- have one value
abbrev pub AcceptorNotBelow : ℕ → Option Vote → ℕ → Option Vote → Type 0
AcceptorNotBelow promised accepted before other = (before ≤ promised) × VoteNotBelow accepted other
