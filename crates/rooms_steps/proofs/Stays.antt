-- No word falls below what it was, so what a seat saw of the words stays true.
use Rattle.std.proofs.Common.{◌≡◌, ℕ, ◌<◌, ◌≤◌, ◌⊎◌, Bool, true, false, cond, eqb, List, [], ◌∷◌, Option, Some, IfSome, le_refl, lt_of_not-le, refl, sym, ap, ◌∙◌, subst, inl, inr, arith}
use Rattle.std.proofs.lemmas.Bool.{eqb-true}
use native.Mathlib.Decide.{dec_le}
use Rattle.paxos_core_world.specs.KeptPart.{KeptPart, with_start, with_promise, with_vote, vote}
use Rattle.paxos_core_world.specs.Quorum.{Sizes}
use Rattle.paxos_core_world.specs.Run.{IsRun, reached}
use Rattle.paxos_core_world.specs.Step.{Label, Offers, Starts, Promises, Proposes, Accepts, Learns, Restarts, Allowed, after}
use Rattle.paxos_core_world.specs.World.{World, Has, put}
use Rattle.paxos_core_world.specs.declared.msg.Msg.{Msg}
use Rattle.paxos_core_world.specs.declared.msg.Msg.TheVariants.{Prepare, Promise, Propose, Accepted}
use Rattle.paxos_core_world.specs.declared.vote.Vote.{Vote}
use Rattle.rooms_words.proofs.WorldLemmas.{grows_by}
use Rattle.rooms_words.specs.Reached.{IsReached}
use Rattle.rooms_words.specs.declared.acceptor.AcceptorWord.{AcceptorWord}
use Rattle.rooms_words.specs.declared.proposer.ProposerWord.{ProposerWord}
use Rattle.rooms_words.specs.NotBelow.{StandsIn, ProposerNotBelow, VoteNotBelow, AcceptorNotBelow}
use Rattle.rooms_words.specs.Sight.{ProposerSeen, AcceptorSeen}
use Rattle.rooms_words.specs.WordsOf.{proposed_under, proposed_by}
use Rattle.rooms_steps.proofs.HearLemmas.{invariant_of}
use Rattle.rooms_words.proofs.RunLemmas.{reached_more}
use Rattle.rooms_words.proofs.WordLemmas.{put_field}

-- ---- acceptors

votes_stay : (x : Option Vote) → VoteNotBelow x x
votes_stay x y e = (y, e, inr refl)

stays_same : (a b : ℕ) (x y : Option Vote) → b ≡ a → y ≡ x → AcceptorNotBelow b y a x
stays_same a b x y e f = (omega arith, λ z h. (z, f ∙ h, inr refl))

votes_through : (x y z : Option Vote) → VoteNotBelow y x → VoteNotBelow z y → VoteNotBelow z x
votes_through x y z h k v e =
    let a = h v e in
    let b = k a.0 a.1 in (
      b.0,
      b.1,
      elim a.2 [
        | inl l ↦ elim b.2 [ inl m ↦ inl (omega arith) | inr q ↦ inl (subst (λ (u : Vote). v.ballot < u.ballot) q l) ]
        | inr p ↦ subst (λ (u : Vote). (u.ballot < b.0.ballot) ⊎ (u ≡ b.0)) (sym p) b.2
      ],
    )

acceptors_through : (a b c : ℕ) (x y z : Option Vote) → AcceptorNotBelow b y a x → AcceptorNotBelow c z b y → AcceptorNotBelow c z a x
acceptors_through a b c x y z h k = let l : a ≤ b = h.0 in let m : b ≤ c = k.0 in (omega arith, votes_through x y z h.1 k.1)

module _ (q : Sizes) (w : World) (r : IsReached q w) (i : ℕ) (lt : i < q.nodes) where
  promised_by : (a b : ℕ) (t : Bool) → eqb i a ≡ t → (w.nodes a).promised < b
      → AcceptorNotBelow (cond t (with_promise b (w.nodes a)) (w.nodes i)).promised (cond t (with_promise b (w.nodes a)) (w.nodes i)).accepted (w.nodes i).promised (w.nodes i).accepted
  promised_by a b true e l =
      let same : i ≡ a = eqb-true i a e in (
        subst (λ (k : ℕ). (w.nodes k).promised ≤ b) (sym same) (omega arith),
        subst (λ (k : ℕ). VoteNotBelow (w.nodes a).accepted (w.nodes k).accepted) (sym same) (votes_stay (w.nodes a).accepted),
      )
  promised_by a b false e l = (le_refl (w.nodes i).promised, votes_stay (w.nodes i).accepted)

  -- a vote of i's under b, after which its vote is (b, v)
  voted_by : (a b v : ℕ) → Allowed q w (Accepts a b v) → (t : Bool) → eqb i a ≡ t
      → AcceptorNotBelow (cond t (with_vote (vote b v) (w.nodes a)) (w.nodes i)).promised (cond t (with_vote (vote b v) (w.nodes a)) (w.nodes i)).accepted (w.nodes i).promised (w.nodes i).accepted
  voted_by a b v al false e = (le_refl (w.nodes i).promised, votes_stay (w.nodes i).accepted)
  voted_by a b v al true e =
      let same : i ≡ a = eqb-true i a e in
      let low : (w.nodes a).promised ≤ b = al.2 in
      let bound : (w.nodes i).promised ≤ b = subst (λ (k : ℕ). (w.nodes k).promised ≤ b) (sym same) low in (
        bound,
        λ x h. (vote b v, refl, compare x h bound (below_or_not x.ballot b (dec_le b x.ballot))),
      )
    where
      within : (x : Vote) → (w.nodes i).accepted ≡ Some x → x.ballot ≤ (w.nodes i).promised
      within x h = (subst (λ (o : Option Vote). IfSome o (λ y. (1 ≤ y.ballot) × (y.ballot ≤ (w.nodes i).promised))) h ((invariant_of q w r).within i lt)).1

      one : (x : Vote) → (w.nodes i).accepted ≡ Some x → x.ballot ≡ b → x ≡ vote b v
      one x h at =
          let next : IsReached q (after w (Accepts a b v)) = reached_more q w (Accepts a b v ∷ []) r (tt, al) in
          let old : Has (Accepted i x.ballot x.value) (after w (Accepts a b v)).sent = inr ((invariant_of q w r).kept i x lt h) in
          let value : x.value ≡ v = (invariant_of q (after w (Accepts a b v)) next).one_vote i a b x.value v (subst (λ (c : ℕ). Has (Accepted i c x.value) (after w (Accepts a b v)).sent) at old) (inl refl) in
          λ k. vote (at k) (value k)

      below_or_not : (c d : ℕ) → Dec (d ≤ c) → (c < d) ⊎ (d ≤ c)
      below_or_not c d (yes h) = inr h
      below_or_not c d (no h) = inl (lt_of_not-le h)

      compare : (x : Vote) → (w.nodes i).accepted ≡ Some x → (w.nodes i).promised ≤ b → (x.ballot < b) ⊎ (b ≤ x.ballot) → (x.ballot < b) ⊎ (x ≡ vote b v)
      compare x h bound (inl l) = inl l
      compare x h bound (inr g) = let p : x.ballot ≤ (w.nodes i).promised = within x h in inr (one x h (omega arith))

  acceptor_rises : (l : Label) → Allowed q w l → AcceptorNotBelow ((after w l).nodes i).promised ((after w l).nodes i).accepted (w.nodes i).promised (w.nodes i).accepted
  acceptor_rises (Offers a) al = stays_same _ _ _ _ (put_field (λ (k : KeptPart). k.promised) w.nodes a i _ refl) (put_field (λ (k : KeptPart). k.accepted) w.nodes a i _ refl)
  acceptor_rises (Starts a b) al = stays_same _ _ _ _ (put_field (λ (k : KeptPart). k.promised) w.nodes a i _ refl) (put_field (λ (k : KeptPart). k.accepted) w.nodes a i _ refl)
  acceptor_rises (Promises a b) al = promised_by a b (eqb i a) refl al.2
  acceptor_rises (Proposes b v) al = (le_refl (w.nodes i).promised, votes_stay (w.nodes i).accepted)
  acceptor_rises (Accepts a b v) al = voted_by a b v al (eqb i a) refl
  acceptor_rises (Learns a v) al = (le_refl (w.nodes i).promised, votes_stay (w.nodes i).accepted)
  acceptor_rises (Restarts a) al = (le_refl (w.nodes i).promised, votes_stay (w.nodes i).accepted)

pub acceptor_stays : (q : Sizes) (w : World) (ls : List Label) (i : ℕ) → IsReached q w → i < q.nodes → IsRun q w ls → AcceptorNotBelow ((reached w ls).nodes i).promised ((reached w ls).nodes i).accepted (w.nodes i).promised (w.nodes i).accepted
acceptor_stays q w [] i r lt run = (le_refl (w.nodes i).promised, votes_stay (w.nodes i).accepted)
acceptor_stays q w (l ∷ ls) i r lt run =
    acceptors_through _ _ _ _ _ _ (acceptor_stays q w ls i r lt run.0) (acceptor_rises q (reached w ls) (reached_more q w ls r run.0) i lt l run.1)

-- ---- proposers

sent_under : (b v : ℕ) (ms : List Msg) → proposed_under b ms ≡ Some v → Has (Propose b v) ms
sent_under b v [] e = absurd (cc)
sent_under b v (Prepare c ∷ ms) e = inr (sent_under b v ms e)
sent_under b v (Promise a c report ∷ ms) e = inr (sent_under b v ms e)
sent_under b v (Accepted a c u ∷ ms) e = inr (sent_under b v ms e)
sent_under b v (Propose c u ∷ ms) e = by (eqb c b) refl e (sent_under b v ms)
  where
    value_of : (x y : ℕ) → ◌≡◌ {A = Option ℕ} (Some x) (Some y) → x ≡ y
    value_of x y e = cc

    by : (t : Bool) → eqb c b ≡ t → cond t (Some u) (proposed_under b ms) ≡ Some v → (proposed_under b ms ≡ Some v → Has (Propose b v) ms) → Has (Propose b v) (Propose c u ∷ ms)
    by true q f k = inl (λ x. Propose (sym (eqb-true c b q) x) (sym (value_of u v f) x))
    by false q f k = inr (k f)

stands : (a b : ℕ) (x y : Option ℕ) → a ≡ b → y ≡ x → ProposerNotBelow b y a x
stands a b x y e f = inr (e, λ v h. f ∙ h)

proposers_through : (a b c : ℕ) (x y z : Option ℕ) → ProposerNotBelow b y a x → ProposerNotBelow c z b y → ProposerNotBelow c z a x
proposers_through a b c x y z (inl h) (inl k) = inl (omega arith)
proposers_through a b c x y z (inl h) (inr k) = let e : b ≡ c = k.0 in inl (omega arith)
proposers_through a b c x y z (inr h) (inl k) = let e : a ≡ b = h.0 in inl (omega arith)
proposers_through a b c x y z (inr h) (inr k) = inr (h.0 ∙ k.0, λ v q. k.1 v (h.1 v q))

module _ (q : Sizes) (w : World) (i : ℕ) where
  put_stands : (a : ℕ) (k : KeptPart) → k.started ≡ (w.nodes a).started → ProposerNotBelow (put w.nodes a k i).started (proposed_under (put w.nodes a k i).started w.sent) (w.nodes i).started (proposed_by w i)
  put_stands a k e =
      let same : (put w.nodes a k i).started ≡ (w.nodes i).started = put_field (λ (x : KeptPart). x.started) w.nodes a i k e in
      stands _ _ _ _ (sym same) (ap (λ (c : ℕ). proposed_under c w.sent) same)

  started_by : (a b : ℕ) (t : Bool) → eqb i a ≡ t → (w.nodes a).started < b
      → ProposerNotBelow (cond t (with_start b (w.nodes a)) (w.nodes i)).started (proposed_under (cond t (with_start b (w.nodes a)) (w.nodes i)).started w.sent) (w.nodes i).started (proposed_by w i)
  started_by a b true e l = inl (subst (λ (k : ℕ). (w.nodes k).started < b) (sym (eqb-true i a e)) l)
  started_by a b false e l = inr (refl, λ v h. h)

  proposed_by_step : (b v : ℕ) → ((x : ℕ) → ¬ Has (Propose b x) w.sent) → (t : Bool) → eqb b (w.nodes i).started ≡ t → StandsIn (proposed_by w i) (cond t (Some v) (proposed_by w i))
  proposed_by_step b v fresh true e u h = absurd (fresh u (subst (λ (c : ℕ). Has (Propose c u) w.sent) (sym (eqb-true b (w.nodes i).started e)) (sent_under (w.nodes i).started u w.sent h)))
  proposed_by_step b v fresh false e u h = h

  proposer_rises : (l : Label) → Allowed q w l → ProposerNotBelow ((after w l).nodes i).started (proposed_by (after w l) i) (w.nodes i).started (proposed_by w i)
  proposer_rises (Offers a) al = put_stands a _ refl
  proposer_rises (Starts a b) al = started_by a b (eqb i a) refl al.2
  proposer_rises (Promises a b) al = put_stands a _ refl
  proposer_rises (Proposes b v) al = inr (refl, proposed_by_step b v al.1 (eqb b (w.nodes i).started) refl)
  proposer_rises (Accepts a b v) al = put_stands a _ refl
  proposer_rises (Learns a v) al = inr (refl, λ u h. h)
  proposer_rises (Restarts a) al = inr (refl, λ u h. h)

pub proposer_stays : (q : Sizes) (w : World) (ls : List Label) (i : ℕ) → IsRun q w ls → ProposerNotBelow ((reached w ls).nodes i).started (proposed_by (reached w ls) i) (w.nodes i).started (proposed_by w i)
proposer_stays q w [] i run = inr (refl, λ v h. h)
proposer_stays q w (l ∷ ls) i run = proposers_through _ _ _ _ _ _ (proposer_stays q w ls i run.0) (proposer_rises q (reached w ls) i l run.1)

-- ---- sights

pub proposer_seen_later : (q : Sizes) (w : World) (ls : List Label) (j : ℕ) (x : ProposerWord) → IsRun q w ls → ProposerSeen w j x → ProposerSeen (reached w ls) j x
proposer_seen_later q w ls j x run h =
    record {
      below = proposers_through _ _ _ _ _ _ h.below (proposer_stays q w ls j run);
      prepare = λ l. (grows_by w ls).sent _ (h.prepare l);
      propose = λ v e. (grows_by w ls).sent _ (h.propose v e);
    }

pub acceptor_seen_later : (q : Sizes) (w : World) (ls : List Label) (j : ℕ) (x : AcceptorWord) → IsReached q w → j < q.nodes → IsRun q w ls → AcceptorSeen w j x → AcceptorSeen (reached w ls) j x
acceptor_seen_later q w ls j x r lt run h =
    record {
      below = acceptors_through _ _ _ _ _ _ h.below (acceptor_stays q w ls j r lt run);
      vote = λ y e. (grows_by w ls).sent _ (h.vote y e);
    }

-- what stands there is seen
pub proposer_seen : (q : Sizes) (w : World) (j : ℕ) (x : ProposerWord) → IsReached q w → j < q.nodes → x.started ≡ (w.nodes j).started → x.proposed ≡ proposed_by w j → ProposerSeen w j x
proposer_seen q w j x r lt e f =
    record {
      below = stands _ _ _ _ e (sym f);
      prepare = λ l. subst (λ (c : ℕ). Has (Prepare c) w.sent) (sym e) ((invariant_of q w r).started j lt (subst (λ (c : ℕ). 1 ≤ c) e l));
      propose = λ v h. subst (λ (c : ℕ). Has (Propose c v) w.sent) (sym e) (sent_under (w.nodes j).started v w.sent (sym f ∙ h));
    }

pub acceptor_seen : (q : Sizes) (w : World) (j : ℕ) (x : AcceptorWord) → IsReached q w → j < q.nodes → x.promised ≡ (w.nodes j).promised → x.accepted ≡ (w.nodes j).accepted → AcceptorSeen w j x
acceptor_seen q w j x r lt e f =
    record {
      below = stays_same _ _ _ _ (sym e) (sym f);
      vote = λ y h. (invariant_of q w r).kept j y lt (sym f ∙ h);
    }
