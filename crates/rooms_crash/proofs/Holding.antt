-- What a node's journal may hold is what its node may have recorded in the world that its seat has seen.
use Rattle.std.proofs.Common.{◌≡◌, ℕ, zero, suc, ◌<◌, ◌≤◌, Bool, true, false, cond, Option, Some, None, option_map, IsTrue, refl, sym, ap, ◌∙◌, subst, inl, inr, arith}
use Rattle.std.proofs.lemmas.Bool.{ltb-true}
use Rattle.paxos_core_world.specs.KeptPart.{KeptPart, with_offer, vote}
use Rattle.paxos_core_world.specs.Quorum.{Sizes}
use Rattle.paxos_core_world.specs.Settled.{is_given}
use Rattle.paxos_core_world.specs.World.{World, Has}
use Rattle.paxos_core_world.specs.declared.msg.Msg.TheVariants.{Prepare, Propose}
use Rattle.paxos_core_world.specs.declared.vote.Vote.{Vote}
use Rattle.paxos_core_node_steps.specs.Acceptor.{promises}
use Rattle.paxos_core_node_steps.specs.NodeState.{NodeState, offered}
use Rattle.paxos_core_node_steps.specs.Reached.{IsReached}
use Rattle.paxos_core_node_steps.specs.Would.{kept_by_step, next_promise, next_vote}
use Rattle.paxos_core_node_steps.specs.declared.step.Act.TheVariants as core_act
use Rattle.paxos_core_node_steps.specs.declared.step.Step.TheVariants as step
use Rattle.paxos_core_crash.specs.LateOffer.{BelongsWithLateOffer}
use Rattle.paxos_core_crash.specs.Crash.{IsRecorded, Nothing, ToOffer, ToDo}
use Rattle.paxos_core_crash.proofs.JournalLemmas.{journals_are_recorded}
use Rattle.rooms_meeting.specs.SeatAct.{SeatAct}
use Rattle.rooms_meeting.specs.SeatAct.TheVariants as act
use Rattle.rooms_meeting.specs.SeatState.{SeatState, proposer_of, seen_world, vote_by}
use Rattle.rooms_meeting.specs.Would.{would, IsAmong}
use Rattle.rooms_words.proofs.RunLemmas.{legal_reached}
use Rattle.rooms_crash.specs.Held.{HeldIsRecorded, MayHold}
use Rattle.rooms_crash.specs.OfRun.{StandsInRun}

abbrev with_kept : NodeState → KeptPart → NodeState
with_kept n k = record n { kept = k }

kept_as : (k : KeptPart) → k.offered ≡ true → k ≡ with_offer k
kept_as k e = ap {B = KeptPart} (λ o. record { offered = o; started = k.started; promised = k.promised; accepted = k.accepted }) e

-- a node that is held as if it had offered is itself one of the world, where an offer that stands there was made
as_it_is : (q : Sizes) (w : World) (n : NodeState) → BelongsWithLateOffer q w (offered n) → (IsTrue (w.nodes n.me).offered → IsTrue n.kept.offered) → (t : Bool) → n.kept.offered ≡ t
    → BelongsWithLateOffer q w n
as_it_is q w n h made true e = subst (λ (x : NodeState). BelongsWithLateOffer q w x) (ap (λ (k : KeptPart). with_kept n k) (sym (kept_as n.kept e))) h
as_it_is q w n (inl h) made false e =
    let there : n.kept.offered ≡ true = made (ap (λ (k : KeptPart). k.offered) h.kept) in
    let bad : true ≡ false = sym there ∙ e in absurd (cc)
as_it_is q w n (inr h) made false e = inr h

module _ (q : Sizes) (w : World) (n : NodeState) (r : IsReached q w) (h : BelongsWithLateOffer q w n) where
  abbrev Recorded : KeptPart → Type 0
  Recorded k = IsRecorded q w n.me k

  idle : Recorded n.kept
  idle = journals_are_recorded q w n Nothing r h tt

  with_no_ballot : (t : Bool) → promises n 0 ≡ t → Recorded (kept_by_step (option_map step.Promise (cond t (Some 0) None)) n.kept)
  with_no_ballot true e = let low : n.kept.promised < 0 = ltb-true n.kept.promised 0 e in absurd (omega (arith, low))
  with_no_ballot false e = idle

  with_promise_of : (b : ℕ) → (1 ≤ b → Has (Prepare b) w.sent) → Recorded (kept_by_step (option_map step.Promise (next_promise n b)) n.kept)
  with_promise_of zero sent = with_no_ballot (promises n 0) refl
  with_promise_of (suc b) sent = journals_are_recorded q w n (ToDo (core_act.Promise (suc b))) r h (sent (omega arith))

  with_vote_if : (t : Bool) (b v : ℕ) → Has (Propose b v) w.sent
      → Recorded (kept_by_step (option_map (λ (x : Vote). step.Accept x.ballot x.value) (cond t None (next_vote n (vote b v)))) n.kept)
  with_vote_if true b v sent = idle
  with_vote_if false b v sent = journals_are_recorded q w n (ToDo (core_act.Accept b v)) r h sent

  with_vote_of : (b : ℕ) (p : Option ℕ) → ((v : ℕ) → p ≡ Some v → Has (Propose b v) w.sent)
      → Recorded (kept_by_step (option_map (λ (x : Vote). step.Accept x.ballot x.value) (vote_by n b p)) n.kept)
  with_vote_of b None sent = idle
  with_vote_of b (Some v) sent = with_vote_if (is_given (vote b v) n.kept.accepted) b v (sent v refl)

module _ (s : SeatState) (stands : StandsInRun s) where
  abbrev q : Sizes
  q = s.view.opening.quorums

  reached : IsReached q (seen_world s)
  reached = legal_reached s.view.opening s.view.seen stands.legal

  belongs : BelongsWithLateOffer q (seen_world s) s.node
  belongs =
      as_it_is q (seen_world s) s.node (subst (λ (x : NodeState). BelongsWithLateOffer q (seen_world s) x) stands.node stands.belongs) stands.made
      s.node.kept.offered refl

  among : (j : ℕ) → j < s.node.quorums.nodes → j < q.nodes
  among j lt = subst (λ (k : ℕ). j < k) (ap (λ (x : Sizes). x.nodes) stands.quorums) lt

  asked : (a : SeatAct) → IsAmong s.node.quorums.nodes a → IsRecorded q (seen_world s) s.node.me (kept_by_step (would s a) s.node.kept)
  asked act.Start lt = journals_are_recorded q (seen_world s) s.node (ToDo core_act.Start) reached belongs tt
  asked (act.Promise j) lt =
      with_promise_of q (seen_world s) s.node reached belongs (proposer_of s j).started (stands.proposers j (among j lt)).prepare
  asked act.Propose lt = journals_are_recorded q (seen_world s) s.node (ToDo core_act.Propose) reached belongs tt
  asked (act.Accept j) lt =
      with_vote_of q (seen_world s) s.node reached belongs (proposer_of s j).started (proposer_of s j).proposed
      (stands.proposers j (among j lt)).propose

  held : (k : KeptPart) → MayHold s k → IsRecorded q (seen_world s) s.node.me k
  held k (inl e) = subst (λ (x : KeptPart). IsRecorded q (seen_world s) s.node.me x) (sym e) (idle q (seen_world s) s.node reached belongs)
  held k (inr (inl e)) =
      subst (λ (x : KeptPart). IsRecorded q (seen_world s) s.node.me x) (sym e)
      (journals_are_recorded q (seen_world s) s.node ToOffer reached belongs tt)
  held k (inr (inr h)) = subst (λ (x : KeptPart). IsRecorded q (seen_world s) s.node.me x) (sym h.2) (asked h.0 h.1)

pub held_is_recorded : HeldIsRecorded
held_is_recorded s k stands holds = held s stands k holds
