-- What a node makes of an acceptor's word are steps of the protocol: the promise and the vote that it shows were sent.
use Rattle.std.proofs.Common.{◌≡◌, ℕ, ◌<◌, Bool, true, false, cond, ◌&&◌, Option, Some, None, refl, sym, ap, ◌∙◌, subst, inl, inr, arith}
use Rattle.std.proofs.lemmas.Bool.{and_parts, ltb-true, eqb-true}
use Rattle.paxos_core_world.specs.KeptPart.{vote}
use Rattle.paxos_core_world.specs.Quorum.{Sizes}
use Rattle.paxos_core_world.specs.World.{World, Has}
use Rattle.paxos_core_world.specs.declared.msg.Msg.TheVariants.{Promise, Accepted}
use Rattle.paxos_core_world.specs.declared.vote.Vote.{Vote}
use Rattle.rooms_words.specs.Invariant.{Invariant}
use Rattle.rooms_words.proofs.Theorem.{holds}
use Rattle.rooms_words.specs.Acceptor.{is_vote}
use Rattle.rooms_words.specs.Learner.{is_report, is_under_way, notes_promise, after_promise, notes_vote}
use Rattle.rooms_words.specs.NodeState.{NodeState}
use Rattle.rooms_words.specs.Reached.{IsReached}
use Rattle.rooms_words.specs.LateOffer.{BelongsWithLateOffer, TakesLate}
use Rattle.rooms_words.proofs.LateLemmas.{offers_may_be_late}
use Rattle.rooms_words.specs.Heard.{after_shown_vote, taken_on_vote, after_hearing, taken_by_hearing}

pub invariant_of : (q : Sizes) (w : World) → IsReached q w → Invariant q w
invariant_of q w r = subst (λ (x : World). Invariant q x) (sym r.world) (holds q r.nodes r.steps r.run)

under_way : (o : Option ℕ) (b : ℕ) → is_under_way o b ≡ true → o ≡ Some b
under_way None b e = absurd (cc)
under_way (Some c) b e = ap {B = Option ℕ} (λ (x : ℕ). Some x) (eqb-true c b e)

-- what is noted of a promise: it is for the ballot under way, and its report is lower
noted_parts : (p q r t : Bool) → (p && (q && (r && t))) ≡ true → (r ≡ true) × (t ≡ true)
noted_parts true true true true e = (refl, refl)
noted_parts true true true false e = absurd (cc)
noted_parts true true false t e = absurd (cc)
noted_parts true false r t e = absurd (cc)
noted_parts false q r t e = absurd (cc)

not_own_ballot : (n b : ℕ) (x : Option Vote) (v : ℕ) → x ≡ Some (vote b v) → is_report n b x ≡ true → ⊥
not_own_ballot n b None v e h = absurd (cc)
not_own_ballot n b (Some x) v e h =
    let low : x.ballot < b = ltb-true x.ballot b (and_parts (is_vote n x) _ h).1 in
    let same : x.ballot ≡ b = ballot_of x (vote b v) e in
    omega arith
  where
    ballot_of : (x y : Vote) → ◌≡◌ {A = Option Vote} (Some x) (Some y) → x.ballot ≡ y.ballot
    ballot_of x y e = cc

begun_of : (q : Sizes) (w : World) (s : NodeState) (b : ℕ) → BelongsWithLateOffer q w s → s.ballot ≡ Some b → Has b w.begun
begun_of q w s b (inl h) e = (h.ballot b e).begun
begun_of q w s b (inr h) e = (h.ballot b e).begun

belongs_unless : (q : Sizes) (w : World) (t : Bool) (u s : NodeState) → t ≡ false → BelongsWithLateOffer q w s → BelongsWithLateOffer q w (cond t u s)
belongs_unless q w true u s e h = absurd (cc)
belongs_unless q w false u s e h = h

module _ (q : Sizes) (w : World) (r : IsReached q w) (j : ℕ) (lt : j < q.nodes) where
  promise_by : (s : NodeState) → BelongsWithLateOffer q w s → (t : Bool) → notes_promise s j (w.nodes j).promised (w.nodes j).accepted ≡ t → BelongsWithLateOffer q w (after_promise s j (w.nodes j).promised (w.nodes j).accepted)
  promise_by s h false e = belongs_unless q w (notes_promise s j (w.nodes j).promised (w.nodes j).accepted) _ s e h
  promise_by s h true e =
      let parts = noted_parts _ _ (is_report s.quorums.nodes (w.nodes j).promised (w.nodes j).accepted) (is_under_way s.ballot (w.nodes j).promised) e in
      let begun = begun_of q w s (w.nodes j).promised h (under_way s.ballot (w.nodes j).promised parts.1) in
      elim ((invariant_of q w r).answered j lt begun) [
        | inl sent ↦ (offers_may_be_late.message s (Promise j (w.nodes j).promised (w.nodes j).accepted) q w r h sent).belongs
        | inr own ↦ absurd (not_own_ballot s.quorums.nodes (w.nodes j).promised (w.nodes j).accepted own.0 own.1 parts.0)
      ]

  vote_by : (s : NodeState) → BelongsWithLateOffer q w s → (x : Option Vote) → (w.nodes j).accepted ≡ x → TakesLate q w (taken_on_vote s j x) (after_shown_vote s j x) None
  vote_by s h None e = record { run = tt; own = tt; belongs = h; sent = tt }
  vote_by s h (Some x) e = offers_may_be_late.message s (Accepted j x.ballot x.value) q w r h ((invariant_of q w r).kept j x lt e)

  -- a look at node j's acceptor, in the world in which its word is found
  pub hearing_takes : (s : NodeState) → BelongsWithLateOffer q w s → TakesLate q w (taken_by_hearing s j (w.nodes j).promised (w.nodes j).accepted) (after_hearing s j (w.nodes j).promised (w.nodes j).accepted) None
  hearing_takes s h =
      vote_by (after_promise s j (w.nodes j).promised (w.nodes j).accepted)
      (promise_by s h (notes_promise s j (w.nodes j).promised (w.nodes j).accepted) refl) (w.nodes j).accepted refl

me_if : (t : Bool) (s u : NodeState) → u.me ≡ s.me → (cond t u s).me ≡ s.me
me_if true s u e = e
me_if false s u e = refl

me_shown : (s : NodeState) (j : ℕ) (x : Option Vote) → (after_shown_vote s j x).me ≡ s.me
me_shown s j None = refl
me_shown s j (Some x) = me_if (notes_vote s j x) s _ refl

pub me_hearing : (s : NodeState) (j p : ℕ) (x : Option Vote) → (after_hearing s j p x).me ≡ s.me
me_hearing s j p x = me_shown (after_promise s j p x) j x ∙ me_if (notes_promise s j p x) s _ refl
