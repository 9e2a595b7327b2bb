-- What a seat would do goes on from what its node keeps.
use Rattle.std.proofs.Common.{◌≡◌, ◌≢◌, ℕ, ◌<◌, ◌≤◌, Bool, true, false, cond, ◌&&◌, eqb, get_or, Option, Some, None, IfSome, refl, sym, ap, ◌∙◌, subst, inl, inr}
use Rattle.std.proofs.lemmas.Bool.{eq-eqb}
use Rattle.paxos_core_world.specs.KeptPart.{KeptPart, vote}
use Rattle.paxos_core_world.specs.Quorum.{Sizes}
use Rattle.paxos_core_world.specs.Run.{reached}
use Rattle.paxos_core_world.specs.Settled.{is_given}
use Rattle.paxos_core_world.specs.World.{Has}
use Rattle.paxos_core_world.specs.declared.msg.Msg.TheVariants.{Propose, Accepted}
use Rattle.paxos_core_world.specs.declared.vote.Vote.{Vote}
use Rattle.rooms_words.specs.NodeState.{NodeState}
use Rattle.rooms_words.specs.Proposer.{next_proposal, propose_message}
use Rattle.rooms_words.specs.Would.{next_vote}
use Rattle.rooms_words.specs.LateOffer.{taken_late_by_propose}
use Rattle.rooms_words.proofs.LateLemmas.{offers_may_be_late}
use Rattle.rooms_meeting.proofs.OfferLemmas.{proposal_offered}
use Rattle.rooms_words.proofs.RunLemmas.{reached_more, kept_of}
use Rattle.rooms_meeting.proofs.HearLemmas.{invariant_of}
use Rattle.rooms_words.proofs.RunLemmas.{legal_reached}
use Rattle.rooms_meeting.proofs.Moves.{nodes_are, number_below}
use Rattle.rooms_meeting.proofs.Acts.{vote_seen}
use Rattle.rooms_meeting.specs.SeatState.{SeatState, seen_world, proposer_of, vote_by, vote_of}
use Rattle.rooms_meeting.specs.Sound.{IsSound}

if_some : {A : Type 0} (o : Option A) (P : A → Type 0) → ((y : A) → o ≡ Some y → P y) → IfSome o P
if_some None P each = tt
if_some (Some y) P each = each y refl

-- a vote that was given is not given again
given_again : (s : NodeState) (x y : Vote) → s.kept.accepted ≡ Some y → y.ballot ≡ x.ballot → y.value ≡ x.value → Some x ≡ vote_by s x.ballot (Some x.value) → ⊥
given_again s x y kept ballot value told =
    let given : is_given (vote x.ballot x.value) s.kept.accepted ≡ true =
    ap (λ (o : Option Vote). is_given (vote x.ballot x.value) o) kept
    ∙ (ap (λ (t : Bool). t && eqb y.value x.value) (eq-eqb y.ballot x.ballot ballot) ∙ eq-eqb y.value x.value value) in
    let none : Some x ≡ None = told ∙ ap (λ (t : Bool). cond t None (next_vote s (vote x.ballot x.value))) given in
    cc

module _ (s : SeatState) (sound : IsSound s) where
  -- a ballot under way is the one that the node keeps as started
  pub ballot_kept : (b : ℕ) → s.node.ballot ≡ Some b → (1 ≤ b) × (b ≡ s.node.kept.started)
  ballot_kept b e =
      let here : s.view.node.ballot ≡ Some b = ap (λ (t : NodeState). t.ballot) sound.node ∙ e in
      let is : s.view.node.kept.started ≡ s.node.kept.started = ap (λ (t : NodeState). t.kept.started) sound.node in
      elim sound.belongs [
        | inl x ↦ ((x.ballot b here).own.first, sym (x.started b here) ∙ is)
        | inr x ↦ ((x.ballot b here).own.first, sym (x.started b here) ∙ is)
      ]

  -- what is proposed is a node of the room
  pub proposed_node : (b v : ℕ) → next_proposal s.node ≡ Some (b, v) → v < s.node.quorums.nodes
  proposed_node b v e =
      let r = legal_reached s.view.opening s.view.seen sound.legal in
      let own : next_proposal s.view.node ≡ Some (b, v) = ap next_proposal sound.node ∙ proposal_offered s.node (b, v) e in
      let done = offers_may_be_late.propose s.view.node s.view.opening.quorums (seen_world s) r sound.belongs in
      let sent : Has (Propose b v) (reached (seen_world s) (taken_late_by_propose (seen_world s) s.view.node)).sent =
      subst (λ (m : Option (ℕ × ℕ)). IfSome (propose_message m) (λ m. Has m (reached (seen_world s) (taken_late_by_propose (seen_world s) s.view.node)).sent)) own done.sent in
      let low : v < s.view.opening.quorums.nodes =
      ((invariant_of s.view.opening.quorums (reached (seen_world s) (taken_late_by_propose (seen_world s) s.view.node))
      (reached_more s.view.opening.quorums (seen_world s) (taken_late_by_propose (seen_world s) s.view.node) r done.run)).offered b v (inl sent)).0 in
      subst (λ (n : ℕ). v < n) (sym (nodes_are s sound)) low

  -- what it would vote for is under another ballot than its last vote
  pub vote_fresh : (j : ℕ) (x : Vote) → j < s.node.quorums.nodes → vote_of s j ≡ Some x → IfSome s.node.kept.accepted (λ y. y.ballot ≢ x.ballot)
  vote_fresh j x lt e =
      if_some s.node.kept.accepted (λ y. y.ballot ≢ x.ballot)
      (λ y kept same.
      let told = vote_seen s.node (proposer_of s j).started (proposer_of s j).proposed x (sym e) in
      let sent : Has (Propose x.ballot x.value) (seen_world s).sent =
      subst (λ (d : ℕ). Has (Propose d x.value) (seen_world s).sent) (sym told.2)
      ((sound.proposers j (subst (λ (m : ℕ). j < m) (ap (λ (q : Sizes). q.nodes) sound.quorums) lt)).propose x.value told.1) in
      let me : s.view.node.me < s.view.opening.quorums.nodes = number_below s.view.opening.quorums (seen_world s) s.view.node sound.belongs in
      let at : ((seen_world s).nodes s.view.node.me).accepted ≡ Some y =
      kept_of s.view.opening.quorums (seen_world s) s.view.node (λ (k : KeptPart). k.accepted) (λ k. refl) sound.belongs ∙ (ap (λ (t : NodeState). t.kept.accepted) sound.node ∙ kept) in
      let all = invariant_of s.view.opening.quorums (seen_world s) (legal_reached s.view.opening s.view.seen sound.legal) in
      let voted = all.votes s.view.node.me y.ballot y.value (all.kept s.view.node.me y me at) in
      let asked : Some x ≡ vote_by s.node x.ballot (Some x.value) =
      subst (λ (d : ℕ). Some x ≡ vote_by s.node d (Some x.value)) (sym told.2)
      (subst (λ (p : Option ℕ). Some x ≡ vote_by s.node (proposer_of s j).started p) told.1 (sym e)) in
      elim voted.origin [
        | inl own ↦ given_again s.node x y kept same
            (all.one_proposal x.ballot y.value x.value (subst (λ (b : ℕ). Has (Propose b y.value) (seen_world s).sent) same own) sent) asked
        | inr never ↦ never (subst (λ (b : ℕ). Has b (seen_world s).begun) (sym same) (all.proposed x.ballot x.value sent))
      ])
