-- A node whose offer the run has at the latest with the proposal of its own number.
use Rattle.std.proofs.Common.{◌≡◌, ℕ, ◌<◌, ◌≤◌, ◌⊎◌, Bool, true, false, cond, ◌&&◌, not, List, [], ◌∷◌, ◌++◌, Option, Some, None, is_some, is_none, IfSome, refl, sym, ap, subst, inl, inr}
use Rattle.std.proofs.lemmas.Bool.{and_parts}
use Rattle.paxos_core_node_steps.specs.KeptPart.{KeptPart, with_offer, without_offer, vote}
use Rattle.paxos_core_node_steps.specs.Quorum.{Sizes}
use Rattle.paxos_core_node_steps.specs.Run.{reached}
use Rattle.paxos_core_node_steps.specs.PaxosCoreWorldStep.{Label, Offers, after}
use Rattle.paxos_core_node_steps.specs.World.{World, Has}
use Rattle.paxos_core_node_steps.specs.Msg.{Msg}
use Rattle.paxos_core_node_steps.specs.Msg.TheVariants.{Prepare, Promise, Propose, Accepted}
use Rattle.paxos_core_node_steps.specs.Vote.{Vote}
use Rattle.paxos_core_node_steps.proofs.Reopens.{reached-append, run_append}
use Rattle.paxos_core_node_steps.specs.Acceptor.{promises, accepts}
use Rattle.paxos_core_node_steps.specs.Belongs.{Belongs}
use Rattle.paxos_core_late_offers.specs.LateOffer.{unoffered, BelongsWithLateOffer, proposes_own, owes_offer, taken_late_by_propose, TakesLate, TakesStepsLate, OffersMayBeLate, OthersLeaveIt}
use Rattle.paxos_core_node_steps.specs.Learner.{notes_promise, notes_vote}
use Rattle.paxos_core_node_steps.specs.Message.{reply, after_message}
use Rattle.paxos_core_node_steps.specs.NodeState.{NodeState, offered, restarted}
use Rattle.paxos_core_node_steps.specs.Notes.{highest_below}
use Rattle.paxos_core_node_steps.specs.Proposer.{next_ballot, started, choice, may_propose, proposal_under, propose_message, proposal, after_answer, after_proposal}
use Rattle.paxos_core_node_steps.specs.Reached.{IsReached}
use Rattle.paxos_core_node_steps.specs.Taken.{taken_by_start, proposes, taken_by_propose, taken_by_restart, taken_on}
use Rattle.paxos_core_node_steps.specs.Takes.{Takes, AreStepsOf}
use Rattle.paxos_core_node_steps.proofs.BelongsLemmas.{belongs_kept, belongs_after_others}
use Rattle.paxos_core_node_steps.proofs.TakesLemmas.{offer_takes, start_takes, propose_anywhere, on_takes, restart_takes}

-- a call that leaves the node with its offer, or without it
late : {z : Sizes} {w : World} {ls : List Label} {t : NodeState} {m : Option Msg} → Takes z w ls t m → TakesLate z w ls t m
late h = record { run = h.run; own = h.own; belongs = inl h.belongs; sent = h.sent }

but_offer : {z : Sizes} {w : World} {ls : List Label} {m : Option Msg} (t u : NodeState) → u ≡ unoffered t → Takes z w ls u m → TakesLate z w ls t m
but_offer {z} {w} {ls} {m} t u e h =
    let same = subst (λ x. Takes z w ls x m) e h in
    record { run = same.run; own = same.own; belongs = inr same.belongs; sent = same.sent }

-- ---- offer, start, restart, messages

kept_as : (k : KeptPart) (t : Bool) → k.offered ≡ t → k ≡ record { offered = t; started = k.started; promised = k.promised; accepted = k.accepted }
kept_as k t e = ap {B = KeptPart} (λ o. record { offered = o; started = k.started; promised = k.promised; accepted = k.accepted }) e

offer_by : (t : Bool) (z : Sizes) (w : World) (s : NodeState) → s.kept.offered ≡ t → BelongsWithLateOffer z w s → BelongsWithLateOffer z w (offered s)
offer_by t z w s e (inr h) = inr h
offer_by true z w s e (inl h) = inl (belongs_kept z w s (with_offer s.kept) h (kept_as s.kept true e))
offer_by false z w s e (inl h) = inr (belongs_kept z w s (without_offer s.kept) h (kept_as s.kept false e))

offer_late : (s : NodeState) → TakesStepsLate s (offered s) (λ _. []) None
offer_late s z w r h = record { run = tt; own = tt; belongs = offer_by s.kept.offered z w s refl h; sent = tt }

start_late : (s : NodeState) → next_ballot s ≤ 65535 → TakesStepsLate s (started s) (λ _. taken_by_start s) (Some (Prepare (next_ballot s)))
start_late s last z w r (inl h) = late (start_takes s last z w r h)
start_late s last z w r (inr h) = but_offer (started s) _ refl (start_takes (unoffered s) last z w r h)

restart_late : (s : NodeState) (k : KeptPart) (z : Sizes) (w : World) → s.me < z.nodes → s.quorums ≡ z → (w.nodes s.me ≡ k) ⊎ (w.nodes s.me ≡ without_offer k) → TakesLate z w (taken_by_restart s) (restarted s k) None
restart_late s k z w i c (inl e) = late (restart_takes s k z w i c e)
restart_late s k z w i c (inr e) = but_offer (restarted s k) _ refl (restart_takes s (without_offer k) z w i c e)

forget_late : (s : NodeState) → TakesStepsLate s (restarted s s.kept) (λ _. taken_by_restart s) None
forget_late s z w r (inl h) = restart_late s s.kept z w h.number h.quorums (inl h.kept)
forget_late s z w r (inr h) = restart_late s s.kept z w h.number h.quorums (inr h.kept)

unoffered_if : (t : Bool) (s u : NodeState) → cond t (unoffered u) (unoffered s) ≡ unoffered (cond t u s)
unoffered_if true s u = refl
unoffered_if false s u = refl

message_unoffered : (s : NodeState) (m : Msg) → after_message (unoffered s) m ≡ unoffered (after_message s m)
message_unoffered s (Prepare b) = unoffered_if (promises s b) s _
message_unoffered s (Propose b v) = unoffered_if (accepts s (vote b v)) s _
message_unoffered s (Promise a b report) = unoffered_if (notes_promise s a b report) s _
message_unoffered s (Accepted a b v) = unoffered_if (notes_vote s a (vote b v)) s _

reply_unoffered : (s : NodeState) (m : Msg) → reply (unoffered s) m ≡ reply s m
reply_unoffered s (Prepare b) = refl
reply_unoffered s (Propose b v) = refl
reply_unoffered s (Promise a b report) = refl
reply_unoffered s (Accepted a b v) = refl

taken_unoffered : (s : NodeState) (m : Msg) → taken_on (unoffered s) m ≡ taken_on s m
taken_unoffered s (Prepare b) = refl
taken_unoffered s (Propose b v) = refl
taken_unoffered s (Promise a b report) = refl
taken_unoffered s (Accepted a b v) = refl

message_late : (s : NodeState) (m : Msg) (z : Sizes) (w : World) → IsReached z w → BelongsWithLateOffer z w s → Has m w.sent → TakesLate z w (taken_on s m) (after_message s m) (reply s m)
message_late s m z w r (inl h) k = late (on_takes s m z w r h k)
message_late s m z w r (inr h) k =
    but_offer (after_message s m) _ (message_unoffered s m)
    (subst (λ ls. Takes z w ls (after_message (unoffered s) m) (reply s m)) (taken_unoffered s m)
    (subst (λ x. Takes z w (taken_on (unoffered s) m) (after_message (unoffered s) m) x) (reply_unoffered s m)
    (on_takes (unoffered s) m z w r h k)))

-- ---- propose

abbrev under : Option ℕ → Bool → Option ℕ → Option (ℕ × ℕ)
under o t c = proposal_under o t c

-- who proposes its own number has offered
own_offered : (o : Option ℕ) (t : Bool) (h : Option Vote) (f : Bool) (me : ℕ) → (is_some (under o t (choice h f me)) && is_none h) ≡ true → f ≡ true
own_offered o t h true me e = refl
own_offered o t (Some x) false me e = absurd (let parts = and_parts (is_some (under o t (Some x.value))) false e in let never = parts.1 in cc)
own_offered None t None false me e = absurd (cc)
own_offered (Some b) false None false me e = absurd (cc)
own_offered (Some b) true None false me e = absurd (cc)

-- what is proposed is the same without the offer, if it is not the own number
and_false : (p : Bool) → (p && true) ≡ false → p ≡ false
and_false true e = absurd (cc)
and_false false e = refl

same_without : (o : Option ℕ) (t : Bool) (h : Option Vote) (f : Bool) (me : ℕ) → (is_some (under o t (choice h f me)) && is_none h) ≡ false → under o t (choice h false me) ≡ under o t (choice h f me)
same_without o t (Some x) f me e = refl
same_without o t None false me e = refl
same_without None t None true me e = refl
same_without (Some b) false None true me e = refl
same_without (Some b) true None true me e = absurd (cc)

answer_unoffered : (o : Option Msg) (s : NodeState) → after_answer (unoffered s) o ≡ unoffered (after_answer s o)
answer_unoffered None s = refl
answer_unoffered (Some m) s = refl

are_steps-append : (n i : ℕ) (later before : List Label) → AreStepsOf n i later → AreStepsOf n i before → AreStepsOf n i (later ++ before)
are_steps-append n i [] before h k = k
are_steps-append n i (l ∷ later) before h k = (h.0, are_steps-append n i later before h.1 k)

-- one call's steps after another's
both : (z : Sizes) (w : World) (before later : List Label) (s t : NodeState) (m : Option Msg) → t.me ≡ s.me → Takes z w before s None → Takes z (reached w before) later t m → Takes z w (later ++ before) t m
both z w before later s t m e first second =
    let there = sym (reached-append w later before) in
    record {
      run = run_append z w later before first.run second.run;
      own = are_steps-append z.nodes t.me later before second.own (subst (λ i. AreStepsOf z.nodes i before) (sym e) first.own);
      belongs = subst (λ (x : World). Belongs z x t) there second.belongs;
      sent = subst (λ (x : World). IfSome m (λ a. Has a x.sent)) there second.sent;
    }

number_after : (o : Option Msg) (s : NodeState) → (after_answer s o).me ≡ s.me
number_after None s = refl
number_after (Some m) s = refl

module _ (z : Sizes) (w : World) (s : NodeState) (r : IsReached z w) where
  own_has : proposes_own s ≡ true → s.kept.offered ≡ true
  own_has e = own_offered s.ballot (may_propose s) (highest_below s.quorums.nodes s.promises) s.kept.offered s.me e

  -- once the offer is taken, the node belongs
  offered_then : Belongs z w (unoffered s) → proposes_own s ≡ true → Takes z w (Offers s.me ∷ []) s None
  offered_then h e =
      subst (λ x. Takes z w (Offers s.me ∷ []) x None)
      (ap (λ (k : KeptPart). record s { kept = k }) (sym (kept_as s.kept true (own_has e))))
      (offer_takes (unoffered s) z w r h)

  without : Belongs z w (unoffered s) → proposes_own s ≡ false → TakesLate z w (taken_by_propose s) (after_proposal s) (proposal s)
  without h e =
      let same = same_without s.ballot (may_propose s) (highest_below s.quorums.nodes s.promises) s.kept.offered s.me e in
      but_offer (after_proposal s) (after_answer (unoffered s) (proposal s)) (answer_unoffered (proposal s) s)
      (subst (λ (p : Option (ℕ × ℕ)). Takes z w (proposes (propose_message p)) (after_answer (unoffered s) (propose_message p)) (propose_message p)) same
      (propose_anywhere (unoffered s) z w h))

  propose_by : (t : Bool) → owes_offer w s ≡ t → BelongsWithLateOffer z w s → TakesLate z w (cond t (taken_by_propose s ++ Offers s.me ∷ []) (taken_by_propose s)) (after_proposal s) (proposal s)
  propose_by false e (inl h) = late (propose_anywhere s z w h)
  propose_by false e (inr h) = without h (and_false (proposes_own s) (subst (λ (k : KeptPart). (proposes_own s && not k.offered) ≡ false) h.kept e))
  propose_by true e (inl h) =
      let parts = and_parts (proposes_own s) (not (w.nodes s.me).offered) e in
      absurd (clash s.kept.offered (own_has parts.0) (subst (λ (k : KeptPart). not k.offered ≡ true) h.kept parts.1))
    where
      clash : (t : Bool) → t ≡ true → not t ≡ true → ⊥
      clash true e f = cc
      clash false e f = cc
  propose_by true e (inr h) =
      let parts = and_parts (proposes_own s) (not (w.nodes s.me).offered) e in
      let first = offered_then h parts.0 in
      late (both z w (Offers s.me ∷ []) (taken_by_propose s) s (after_proposal s) (proposal s) (number_after (proposal s) s) first
      (propose_anywhere s z (after w (Offers s.me)) first.belongs))

propose_late : (s : NodeState) → TakesStepsLate s (after_proposal s) (λ w. taken_late_by_propose w s) (proposal s)
propose_late s z w r h = propose_by z w s r (owes_offer w s) refl h

-- ---- the promises

pub offers_may_be_late : OffersMayBeLate
offers_may_be_late = record { offer = offer_late; start = start_late; propose = propose_late; message = message_late; forget = forget_late; restart = restart_late }

pub others_leave_it : OthersLeaveIt
others_leave_it z w l s j o d = (
  λ h. belongs_after_others z w l s j h o d,
  λ h. elim h [ inl h ↦ inl (belongs_after_others z w l s j h o d) | inr h ↦ inr (belongs_after_others z w l (unoffered s) j h o d) ],
)
