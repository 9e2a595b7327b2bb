-- An opening shows no proposal.
use Rattle.std.proofs.Common.{ℕ, zero, suc, ◌++◌, Option, Some, None, inl, inr}
use Rattle.paxos_core_world.specs.KeptPart.{KeptPart}
use Rattle.paxos_core_world.proofs.Sent.{has-append}
use Rattle.paxos_core_world.specs.World.{Has, shown, shown_start, shown_vote}
use Rattle.paxos_core_world.specs.declared.msg.Msg.TheVariants.{Propose}
use Rattle.paxos_core_world.specs.declared.vote.Vote.{Vote}

start_shows_none : (s b v : ℕ) → Has (Propose b v) (shown_start s) → ⊥
start_shows_none zero b v h = h
start_shows_none (suc s) b v (inl e) = cc
start_shows_none (suc s) b v (inr h) = h

vote_shows_none : (i : ℕ) (o : Option Vote) (b v : ℕ) → Has (Propose b v) (shown_vote i o) → ⊥
vote_shows_none i None b v h = h
vote_shows_none i (Some x) b v (inl e) = cc
vote_shows_none i (Some x) b v (inr h) = h

pub none_shown : (n : ℕ) (nodes : ℕ → KeptPart) (b v : ℕ) → Has (Propose b v) (shown n nodes) → ⊥
none_shown zero nodes b v h = h
none_shown (suc n) nodes b v h =
    elim (has-append (Propose b v) (shown_start (nodes n).started ++ shown_vote n (nodes n).accepted) (shown n nodes) h) [
      | inl here ↦ elim (has-append (Propose b v) (shown_start (nodes n).started) (shown_vote n (nodes n).accepted) here) [
        | inl start ↦ start_shows_none (nodes n).started b v start
        | inr voted ↦ vote_shows_none n (nodes n).accepted b v voted
      ]
      | inr there ↦ none_shown n nodes b v there
    ]
