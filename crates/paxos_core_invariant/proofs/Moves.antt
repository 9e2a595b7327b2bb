-- What a step changes, read backwards: a message that stands after a step stood before it, or the step sent it; likewise
-- for begun ballots, learned values, and each entry of the kept parts. And what a step keeps.
use Rattle.std.proofs.Common.{◌≡◌, ℕ, ◌≤◌, ◌⊎◌, Bool, true, false, cond, IsTrue, Option, eqb, eqb-true, inl, inr, refl, sym, ap, subst, arith}
use Rattle.std.proofs.lemmas.Bool.{eqb-false}
use Rattle.paxos_core_world.specs.KeptPart.{KeptPart, with_offer, with_start, with_promise, with_vote, vote}
use Rattle.paxos_core_world.specs.Quorum.{Sizes}
use Rattle.paxos_core_world.specs.Step.{Label, Offers, Starts, Promises, Proposes, Accepts, Learns, Restarts, Allowed, after, HasOffered, IsChosen}
use Rattle.paxos_core_world.specs.World.{World, Has, put}
use Rattle.paxos_core_world.specs.declared.msg.Msg.{Msg}
use Rattle.paxos_core_world.specs.declared.msg.Msg.TheVariants.{Prepare, Promise, Propose, Accepted}
use Rattle.paxos_core_world.specs.declared.vote.Vote.{Vote}

-- ---- a kept part that was replaced

-- what holds of the new part at i, and of the others where they stood, holds of each
pub put_cases : (P : KeptPart → Type 0) (nodes : ℕ → KeptPart) (i : ℕ) (k : KeptPart) (j : ℕ)
    → (j ≡ i → P k) → ((j ≡ i → ⊥) → P (nodes j)) → P (put nodes i k j)
put_cases P nodes i k j here there = cases (eqb j i) refl
  where
    cases : (x : Bool) → eqb j i ≡ x → P (cond x k (nodes j))
    cases true e = here (eqb-true j i e)
    cases false e = there (eqb-false j i e)

-- ---- messages, begun ballots and learned values stay

pub message_stays : (w : World) (l : Label) (m : Msg) → Has m w.sent → Has m (after w l).sent
message_stays w (Offers i) m h = h
message_stays w (Starts i b) m h = inr h
message_stays w (Promises a b) m h = inr h
message_stays w (Proposes b v) m h = inr h
message_stays w (Accepts a b v) m h = inr h
message_stays w (Learns i v) m h = h
message_stays w (Restarts i) m h = h

pub begun_stays : (w : World) (l : Label) (b : ℕ) → Has b w.begun → Has b (after w l).begun
begun_stays w (Offers i) b h = h
begun_stays w (Starts i c) b h = inr h
begun_stays w (Promises a c) b h = h
begun_stays w (Proposes c v) b h = h
begun_stays w (Accepts a c v) b h = h
begun_stays w (Learns i v) b h = h
begun_stays w (Restarts i) b h = h

pub learned_stays : (w : World) (l : Label) (i v : ℕ) → Has (i, v) w.learned → Has (i, v) (after w l).learned
learned_stays w (Offers j) i v h = h
learned_stays w (Starts j c) i v h = h
learned_stays w (Promises a c) i v h = h
learned_stays w (Proposes c u) i v h = h
learned_stays w (Accepts a c u) i v h = h
learned_stays w (Learns j u) i v h = inr h
learned_stays w (Restarts j) i v h = h

pub chosen_stays : (q : Sizes) (w : World) (l : Label) (b v : ℕ) → IsChosen q w b v → IsChosen q (after w l) b v
chosen_stays q w l b v h =
    record { members = h.members; quorum = h.quorum; votes = λ a below member. message_stays w l _ (h.votes a below member) }

-- ---- where a message comes from

pub prepare_was : (w : World) (l : Label) (b : ℕ) → Has (Prepare b) (after w l).sent
    → Has (Prepare b) w.sent ⊎ ((i : ℕ) × (l ≡ Starts i b))
prepare_was w (Offers i) b h = inl h
prepare_was w (Starts i c) b h = elim h [ inl e ↦ inr (i, cc) | inr old ↦ inl old ]
prepare_was w (Promises a c) b h = elim h [ inl e ↦ absurd (cc) | inr old ↦ inl old ]
prepare_was w (Proposes c v) b h = elim h [ inl e ↦ absurd (cc) | inr old ↦ inl old ]
prepare_was w (Accepts a c v) b h = elim h [ inl e ↦ absurd (cc) | inr old ↦ inl old ]
prepare_was w (Learns i v) b h = inl h
prepare_was w (Restarts i) b h = inl h

pub promise_was : (w : World) (l : Label) (a b : ℕ) (report : Option Vote) → Has (Promise a b report) (after w l).sent
    → Has (Promise a b report) w.sent ⊎ ((l ≡ Promises a b) × (report ≡ (w.nodes a).accepted))
promise_was w (Offers i) a b report h = inl h
promise_was w (Starts i c) a b report h = elim h [ inl e ↦ absurd (cc) | inr old ↦ inl old ]
promise_was w (Promises d c) a b report h = elim h [ inl e ↦ inr (this e) | inr old ↦ inl old ]
  where
    this : Promise a b report ≡ Promise d c (w.nodes d).accepted → (Promises d c ≡ Promises a b) × (report ≡ (w.nodes a).accepted)
    this e = (cc, (let same : d ≡ a = cc in let said : report ≡ (w.nodes d).accepted = cc in cc))
promise_was w (Proposes c v) a b report h = elim h [ inl e ↦ absurd (cc) | inr old ↦ inl old ]
promise_was w (Accepts d c v) a b report h = elim h [ inl e ↦ absurd (cc) | inr old ↦ inl old ]
promise_was w (Learns i v) a b report h = inl h
promise_was w (Restarts i) a b report h = inl h

pub proposal_was : (w : World) (l : Label) (b v : ℕ) → Has (Propose b v) (after w l).sent
    → Has (Propose b v) w.sent ⊎ (l ≡ Proposes b v)
proposal_was w (Offers i) b v h = inl h
proposal_was w (Starts i c) b v h = elim h [ inl e ↦ absurd (cc) | inr old ↦ inl old ]
proposal_was w (Promises a c) b v h = elim h [ inl e ↦ absurd (cc) | inr old ↦ inl old ]
proposal_was w (Proposes c u) b v h = elim h [ inl e ↦ inr (cc) | inr old ↦ inl old ]
proposal_was w (Accepts a c u) b v h = elim h [ inl e ↦ absurd (cc) | inr old ↦ inl old ]
proposal_was w (Learns i u) b v h = inl h
proposal_was w (Restarts i) b v h = inl h

pub vote_was : (w : World) (l : Label) (a b v : ℕ) → Has (Accepted a b v) (after w l).sent
    → Has (Accepted a b v) w.sent ⊎ (l ≡ Accepts a b v)
vote_was w (Offers i) a b v h = inl h
vote_was w (Starts i c) a b v h = elim h [ inl e ↦ absurd (cc) | inr old ↦ inl old ]
vote_was w (Promises d c) a b v h = elim h [ inl e ↦ absurd (cc) | inr old ↦ inl old ]
vote_was w (Proposes c u) a b v h = elim h [ inl e ↦ absurd (cc) | inr old ↦ inl old ]
vote_was w (Accepts d c u) a b v h = elim h [ inl e ↦ inr (cc) | inr old ↦ inl old ]
vote_was w (Learns i u) a b v h = inl h
vote_was w (Restarts i) a b v h = inl h

pub begun_was : (w : World) (l : Label) (b : ℕ) → Has b (after w l).begun → Has b w.begun ⊎ ((i : ℕ) × (l ≡ Starts i b))
begun_was w (Offers i) b h = inl h
begun_was w (Starts i c) b h = elim h [ inl e ↦ inr (i, cc) | inr old ↦ inl old ]
begun_was w (Promises a c) b h = inl h
begun_was w (Proposes c v) b h = inl h
begun_was w (Accepts a c v) b h = inl h
begun_was w (Learns i v) b h = inl h
begun_was w (Restarts i) b h = inl h

pub learned_was : (w : World) (l : Label) (i v : ℕ) → Has (i, v) (after w l).learned
    → Has (i, v) w.learned ⊎ (l ≡ Learns i v)
learned_was w (Offers j) i v h = inl h
learned_was w (Starts j c) i v h = inl h
learned_was w (Promises a c) i v h = inl h
learned_was w (Proposes c u) i v h = inl h
learned_was w (Accepts a c u) i v h = inl h
learned_was w (Learns j u) i v h = elim h [ inl e ↦ inr (this e) | inr old ↦ inl old ]
  where
    this : ◌≡◌ {A = ℕ × ℕ} (i, v) (j, u) → Learns j u ≡ Learns i v
    this e = let node : i ≡ j = ap (λ (p : ℕ × ℕ). p.0) e in let value : v ≡ u = ap (λ (p : ℕ × ℕ). p.1) e in cc
learned_was w (Restarts j) i v h = inl h

-- ---- where a kept part comes from

-- what holds of node a's part before the step, and of what each step that names a makes of it, holds of it after the step
pub node_cases : (w : World) (l : Label) (a : ℕ) (P : KeptPart → Type 0)
    → P (w.nodes a)
    → (l ≡ Offers a → P (with_offer (w.nodes a)))
    → ((b : ℕ) → l ≡ Starts a b → P (with_start b (w.nodes a)))
    → ((b : ℕ) → l ≡ Promises a b → P (with_promise b (w.nodes a)))
    → ((b v : ℕ) → l ≡ Accepts a b v → P (with_vote (vote b v) (w.nodes a)))
    → P ((after w l).nodes a)
node_cases w (Offers i) a P old offer start promise accept =
    put_cases P w.nodes i (with_offer (w.nodes i)) a
    (λ e. subst (λ (m : ℕ). P (with_offer (w.nodes m))) e (offer (ap Offers (sym e)))) (λ _. old)
node_cases w (Starts i b) a P old offer start promise accept =
    put_cases P w.nodes i (with_start b (w.nodes i)) a
    (λ e. subst (λ (m : ℕ). P (with_start b (w.nodes m))) e (start b (ap (λ (m : ℕ). Starts m b) (sym e)))) (λ _. old)
node_cases w (Promises i b) a P old offer start promise accept =
    put_cases P w.nodes i (with_promise b (w.nodes i)) a
    (λ e. subst (λ (m : ℕ). P (with_promise b (w.nodes m))) e (promise b (ap (λ (m : ℕ). Promises m b) (sym e)))) (λ _. old)
node_cases w (Proposes b v) a P old offer start promise accept = old
node_cases w (Accepts i b v) a P old offer start promise accept =
    put_cases P w.nodes i (with_vote (vote b v) (w.nodes i)) a
    (λ e. subst (λ (m : ℕ). P (with_vote (vote b v) (w.nodes m))) e (accept b v (ap (λ (m : ℕ). Accepts m b v) (sym e)))) (λ _. old)
node_cases w (Learns i v) a P old offer start promise accept = old
node_cases w (Restarts i) a P old offer start promise accept = old

-- ---- what only grows

pub promised_grows : (q : Sizes) (w : World) (l : Label) (a : ℕ) → Allowed q w l → (w.nodes a).promised ≤ ((after w l).nodes a).promised
promised_grows q w l a ok =
    node_cases w l a (λ k. (w.nodes a).promised ≤ k.promised) (omega arith) (λ _. omega arith) (λ b _. omega arith)
    (λ b e. let step : Allowed q w (Promises a b) = subst (Allowed q w) e ok in omega arith)
    (λ b v e. let step : Allowed q w (Accepts a b v) = subst (Allowed q w) e ok in omega arith)

pub started_grows : (q : Sizes) (w : World) (l : Label) (i : ℕ) → Allowed q w l → (w.nodes i).started ≤ ((after w l).nodes i).started
started_grows q w l i ok =
    node_cases w l i (λ k. (w.nodes i).started ≤ k.started) (omega arith) (λ _. omega arith)
    (λ b e. let step : Allowed q w (Starts i b) = subst (Allowed q w) e ok in omega arith)
    (λ b _. omega arith) (λ b v _. omega arith)

pub offer_stays : (n : ℕ) (w : World) (l : Label) (v : ℕ) → HasOffered n w.nodes v → HasOffered n (after w l).nodes v
offer_stays n w l v h = (h.0, node_cases w l v (λ k. IsTrue k.offered) h.1 (λ _. refl) (λ b _. h.1) (λ b _. h.1) (λ b u _. h.1))
