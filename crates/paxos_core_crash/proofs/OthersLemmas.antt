-- What other nodes do takes from a node no step that it may take.
use Rattle.std.proofs.lemmas.Bool.{eqb-true}
use Rattle.std.proofs.Common.{◌≡◌, ℕ, ◌<◌, ◌≤◌, Bool, true, false, cond, eqb, IsTrue, List, [], ◌∷◌, ◌⊎◌, refl, sym, ap, ◌∙◌, subst, inl, inr}
use Rattle.paxos_core_world.specs.Ballot.{Owns}
use Rattle.paxos_core_world.specs.KeptPart.{KeptPart, with_offer, with_start, with_promise, with_vote, vote}
use Rattle.paxos_core_world.specs.Quorum.{Sizes}
use Rattle.paxos_core_world.specs.Run.{IsRun, reached}
use Rattle.paxos_core_world.specs.Step.{Label, Offers, Starts, Promises, Proposes, Accepts, Learns, Restarts, Allowed, after, IsSafeChoice}
use Rattle.paxos_core_world.specs.World.{World, Has, put}
use Rattle.paxos_core_world.specs.declared.msg.Msg.{Msg}
use Rattle.paxos_core_world.specs.declared.msg.Msg.TheVariants.{Promise, Propose}
use Rattle.paxos_core_invariant.proofs.Moves.{proposal_was}
use Rattle.paxos_core_node_steps.specs.Takes.{IsStepOf, AreStepsOf}
use Rattle.paxos_core_node_steps.proofs.WorldLemmas.{grows, nodes_of_others, proposed_before, proposes_not_of_others}

-- world v is w, but that other nodes than j have done more
pub record IsAheadBut (n j : ℕ) (w v : World) : Type 0 where
  pub own : v.nodes j ≡ w.nodes j
  pub offered : (i : ℕ) → IsTrue (w.nodes i).offered → IsTrue (v.nodes i).offered
  pub sent : (m : Msg) → Has m w.sent → Has m v.sent
  pub begun : (b : ℕ) → Has b w.begun → Has b v.begun
  pub unproposed : (b u : ℕ) → Owns n j b → Has (Propose b u) v.sent → Has (Propose b u) w.sent

pub ahead_of_none : (n j : ℕ) (w : World) → IsAheadBut n j w w
ahead_of_none n j w = record { own = refl; offered = λ i h. h; sent = λ m h. h; begun = λ b h. h; unproposed = λ b u o h. h }

-- ---- a step of another node

-- who has offered has offered after any step
offered_put : (nodes : ℕ → KeptPart) (i j : ℕ) (k : KeptPart) (t : Bool) → (IsTrue (nodes i).offered → IsTrue k.offered) → eqb j i ≡ t
    → IsTrue (nodes j).offered → IsTrue (cond t k (nodes j)).offered
offered_put nodes i j k true h e o = h (subst (λ x. IsTrue (nodes x).offered) (eqb-true j i e) o)
offered_put nodes i j k false h e o = o

pub offered_stays : (w : World) (l : Label) (j : ℕ) → IsTrue (w.nodes j).offered → IsTrue ((after w l).nodes j).offered
offered_stays w (Offers i) j o = offered_put w.nodes i j (with_offer (w.nodes i)) (eqb j i) (λ h. refl) refl o
offered_stays w (Starts i b) j o = offered_put w.nodes i j (with_start b (w.nodes i)) (eqb j i) (λ h. h) refl o
offered_stays w (Promises i b) j o = offered_put w.nodes i j (with_promise b (w.nodes i)) (eqb j i) (λ h. h) refl o
offered_stays w (Proposes b v) j o = o
offered_stays w (Accepts i b v) j o = offered_put w.nodes i j (with_vote (vote b v) (w.nodes i)) (eqb j i) (λ h. h) refl o
offered_stays w (Learns i v) j o = o
offered_stays w (Restarts i) j o = o

others_step : (n i j : ℕ) (w v : World) (l : Label) → (j ≡ i → ⊥) → IsStepOf n i l → IsAheadBut n j w v → IsAheadBut n j w (after v l)
others_step n i j w v l apart is s = record {
  own = nodes_of_others n v l j i is apart ∙ s.own;
  offered = λ k h. offered_stays v l k (s.offered k h);
  sent = λ m h. (grows v l).sent m (s.sent m h);
  begun = λ b h. (grows v l).begun b (s.begun b h);
  unproposed = λ b u o h. s.unproposed b u o (proposed_before v l b u (proposes_not_of_others n j i b l is o apart) h);
}

pub others_steps : (n i j : ℕ) (w v : World) (ls : List Label) → (j ≡ i → ⊥) → AreStepsOf n i ls → IsAheadBut n j w v → IsAheadBut n j w (reached v ls)
others_steps n i j w v [] apart are s = s
others_steps n i j w v (l ∷ ls) apart are s = others_step n i j w (reached v ls) l apart are.0 (others_steps n i j w v ls apart are.1 s)

-- ---- a step of the node itself, in both worlds

either : (t : Bool) (a b c d : KeptPart) → a ≡ b → c ≡ d → cond t a c ≡ cond t b d
either true a b c d e f = e
either false a b c d e f = f

module _ (n j : ℕ) (w v : World) (s : IsAheadBut n j w v) where
  -- a step that changes the node alone changes it alike
  alike : (i : ℕ) (f : KeptPart → KeptPart) → i ≡ j → put v.nodes i (f (v.nodes i)) j ≡ put w.nodes i (f (w.nodes i)) j
  alike i f e = either (eqb j i) _ _ _ _ (ap f (subst (λ x. v.nodes x ≡ w.nodes x) (sym e) s.own)) s.own

  own_alike : (l : Label) → IsStepOf n j l → (after v l).nodes j ≡ (after w l).nodes j
  own_alike (Offers i) is = alike i with_offer is
  own_alike (Starts i b) is = alike i (with_start b) is
  own_alike (Promises i b) is = alike i (with_promise b) is
  own_alike (Proposes b u) is = s.own
  own_alike (Accepts i b u) is = alike i (with_vote (vote b u)) is
  own_alike (Learns i u) is = s.own
  own_alike (Restarts i) is = s.own

  offered_both : (i k : ℕ) (a b : KeptPart) (t : Bool) → (IsTrue a.offered → IsTrue b.offered) → IsTrue (cond t a (w.nodes k)).offered
      → IsTrue (cond t b (v.nodes k)).offered
  offered_both i k a b true h o = h o
  offered_both i k a b false h o = s.offered k o

  offered_alike : (l : Label) (k : ℕ) → IsTrue ((after w l).nodes k).offered → IsTrue ((after v l).nodes k).offered
  offered_alike (Offers i) k o = offered_both i k (with_offer (w.nodes i)) (with_offer (v.nodes i)) (eqb k i) (λ h. refl) o
  offered_alike (Starts i b) k o = offered_both i k (with_start b (w.nodes i)) (with_start b (v.nodes i)) (eqb k i) (s.offered i) o
  offered_alike (Promises i b) k o = offered_both i k (with_promise b (w.nodes i)) (with_promise b (v.nodes i)) (eqb k i) (s.offered i) o
  offered_alike (Proposes b u) k o = s.offered k o
  offered_alike (Accepts i b u) k o =
      offered_both i k (with_vote (vote b u) (w.nodes i)) (with_vote (vote b u) (v.nodes i)) (eqb k i) (s.offered i) o
  offered_alike (Learns i u) k o = s.offered k o
  offered_alike (Restarts i) k o = s.offered k o

  other : {A B C : Type 0} → (A → B) → C ⊎ A → C ⊎ B
  other f (inl x) = inl x
  other f (inr y) = inr (f y)

  sent_alike : (l : Label) → IsStepOf n j l → (m : Msg) → Has m (after w l).sent → Has m (after v l).sent
  sent_alike (Offers i) is m h = s.sent m h
  sent_alike (Starts i b) is m h = other (s.sent m) h
  sent_alike (Promises i b) is m h = elim h [
    | inl e ↦ inl (subst (λ (k : KeptPart). m ≡ Promise i b k.accepted) (subst (λ x. w.nodes x ≡ v.nodes x) (sym is) (sym s.own)) e)
    | inr old ↦ inr (s.sent m old)
  ]
  sent_alike (Proposes b u) is m h = other (s.sent m) h
  sent_alike (Accepts i b u) is m h = other (s.sent m) h
  sent_alike (Learns i u) is m h = s.sent m h
  sent_alike (Restarts i) is m h = s.sent m h

  begun_alike : (l : Label) (b : ℕ) → Has b (after w l).begun → Has b (after v l).begun
  begun_alike (Offers i) b h = s.begun b h
  begun_alike (Starts i c) b h = other (s.begun b) h
  begun_alike (Promises i c) b h = s.begun b h
  begun_alike (Proposes c u) b h = s.begun b h
  begun_alike (Accepts i c u) b h = s.begun b h
  begun_alike (Learns i u) b h = s.begun b h
  begun_alike (Restarts i) b h = s.begun b h

  proposed_alike : (l : Label) (b u : ℕ) → Owns n j b → Has (Propose b u) (after v l).sent → Has (Propose b u) (after w l).sent
  proposed_alike l b u o h = elim (proposal_was v l b u h) [
    | inl old ↦ (grows w l).sent _ (s.unproposed b u o old)
    | inr e ↦ subst (λ (x : Label). Has (Propose b u) (after w x).sent) (sym e) (inl refl)
  ]

  own_step : (l : Label) → IsStepOf n j l → IsAheadBut n j (after w l) (after v l)
  own_step l is = record {
    own = own_alike l is;
    offered = offered_alike l;
    sent = sent_alike l is;
    begun = begun_alike l;
    unproposed = proposed_alike l;
  }

-- what the node may do in w, it may do in v
choice_ahead : (q : Sizes) (j : ℕ) (w v : World) → IsAheadBut q.nodes j w v → (b u : ℕ) → IsSafeChoice q w b u → IsSafeChoice q v b u
choice_ahead q j w v s b u h = record {
  members = h.members;
  reports = h.reports;
  quorum = h.quorum;
  promises = λ a below member. s.sent _ (h.promises a below member);
  choice = elim h.choice [
    | inl free ↦ inl (free.0, (free.1.0, s.offered u free.1.1))
    | inr highest ↦ inr highest
  ];
}

allowed_ahead : (q : Sizes) (j : ℕ) (w v : World) (l : Label) → IsAheadBut q.nodes j w v → IsStepOf q.nodes j l → Allowed q w l → Allowed q v l
allowed_ahead q j w v l s is ok = on l is ok
  where
    here : (i : ℕ) (P : KeptPart → Type 0) → i ≡ j → P (w.nodes i) → P (v.nodes i)
    here i P e h = subst P (subst (λ x. w.nodes x ≡ v.nodes x) (sym e) (sym s.own)) h

    on : (l : Label) → IsStepOf q.nodes j l → Allowed q w l → Allowed q v l
    on (Offers i) is ok = (ok.0, here i (λ (k : KeptPart). k.offered ≡ false) is ok.1)
    on (Starts i b) is ok = (ok.0, ok.1, here i (λ (k : KeptPart). k.started < b) is ok.2)
    on (Promises i b) is ok = (ok.0, s.sent _ ok.1, here i (λ (k : KeptPart). k.promised < b) is ok.2)
    on (Proposes b u) is ok = (s.begun b ok.0, λ x h. ok.1 x (s.unproposed b x is h), choice_ahead q j w v s b u ok.2)
    on (Accepts i b u) is ok = (ok.0, s.sent _ ok.1, here i (λ (k : KeptPart). k.promised ≤ b) is ok.2)
    on (Learns i u) is ok =
        (ok.0, (ok.1.0, record { members = ok.1.1.members; quorum = ok.1.1.quorum; votes = λ a below member. s.sent _ (ok.1.1.votes a below member) }))
    on (Restarts i) is ok = ok

pub run_ahead : (q : Sizes) (j : ℕ) (w v : World) (ls : List Label) → IsAheadBut q.nodes j w v → AreStepsOf q.nodes j ls → IsRun q w ls
    → IsRun q v ls × IsAheadBut q.nodes j (reached w ls) (reached v ls)
run_ahead q j w v [] s are run = (tt, s)
run_ahead q j w v (l ∷ ls) s are run =
    let before = run_ahead q j w v ls s are.1 run.0 in
    ((before.0, allowed_ahead q j (reached w ls) (reached v ls) l before.1 are.0 run.1), own_step q.nodes j (reached w ls) (reached v ls) before.1 l are.0)
