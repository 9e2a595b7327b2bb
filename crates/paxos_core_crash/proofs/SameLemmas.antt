-- Kept parts that are the same node by node: what is settled, and what a run is.
use Rattle.std.proofs.Common.{◌≡◌, ℕ, zero, suc, ◌<◌, ◌≤◌, Bool, true, false, cond, eqb, IsTrue, List, [], ◌∷◌, ◌++◌, ◌⊎◌, Some, refl, sym, ap, ◌∙◌, subst, inl, inr, arith}
use Rattle.paxos_core_world.specs.Ballot.{Owns}
use Rattle.paxos_core_world.specs.KeptPart.{KeptPart, IsWithinPromise, with_offer, with_start, with_promise, with_vote, vote}
use Rattle.paxos_core_world.specs.Quorum.{Sizes}
use Rattle.paxos_core_world.specs.Run.{IsRun, reached}
use Rattle.paxos_core_world.specs.Settled.{Settled, BallotsSettled, IsStarted, PairSettled, VoteSettled, has_passed, has_promised}
use Rattle.paxos_core_world.specs.Step.{Label, Offers, Starts, Promises, Proposes, Accepts, Learns, Restarts, Allowed, after, HasOffered, IsSafeChoice}
use Rattle.paxos_core_world.specs.World.{World, Has, opening, shown, shown_start, shown_vote}
use Rattle.paxos_core_world.specs.declared.msg.Msg.{Msg}
use Rattle.paxos_core_world.specs.declared.msg.Msg.TheVariants.{Prepare, Promise, Propose, Accepted}
use Rattle.paxos_core_world.specs.declared.vote.Vote.{Vote}
use Rattle.paxos_core_world.proofs.Quorums.{promise_quorum_grows}

-- ---- what is settled

module _ (q : Sizes) (a b : ℕ → KeptPart) (same : (i : ℕ) → i < q.nodes → a i ≡ b i) where
  held : (i : ℕ) (x : Vote) → i < q.nodes → (b i).accepted ≡ Some x → (a i).accepted ≡ Some x
  held i x low e = ap (λ (k : KeptPart). k.accepted) (same i low) ∙ e

  ballots_as : (i : ℕ) → i < q.nodes → BallotsSettled q.nodes a i → BallotsSettled q.nodes b i
  ballots_as i low s = record {
    own = subst (λ (k : KeptPart). (k.started ≡ 0) ⊎ Owns q.nodes i k.started) (same i low) s.own;
    promised = λ j within.
        subst (λ (k : KeptPart). IsStarted q.nodes i k (b j).promised) (same i low)
        (subst (λ (k : KeptPart). IsStarted q.nodes i (a i) k.promised) (same j within) (s.promised j within));
    accepted = λ j x within e.
        subst (λ (k : KeptPart). IsStarted q.nodes i k x.ballot) (same i low) (s.accepted j x within (held j x within e));
  }

  vote_as : (x : Vote) → VoteSettled q a x → VoteSettled q b x
  vote_as x s = record {
    offered = (s.offered.0, subst (λ (k : KeptPart). IsTrue k.offered) (same x.value s.offered.0) s.offered.1);
    quorum =
        promise_quorum_grows q (λ j. has_promised x.ballot (a j)) (λ j. has_promised x.ballot (b j))
        (λ j within yes. subst (λ (k : KeptPart). IsTrue (has_promised x.ballot k)) (same j within) yes) s.quorum;
  }

  pair_as : (x y : Vote) → PairSettled q a x y → PairSettled q b x y
  pair_as x y s = record {
    same = s.same;
    lower = λ below other.
        promise_quorum_grows q (λ j. has_passed y (a j)) (λ j. has_passed y (b j))
        (λ j within yes. subst (λ (k : KeptPart). IsTrue (has_passed y k)) (same j within) yes) (s.lower below other);
  }

  pub settled_as : Settled q a → Settled q b
  settled_as s = record {
    within = λ i low. subst (λ (k : KeptPart). IsWithinPromise k.promised k.accepted) (same i low) (s.within i low);
    ballots = λ i low. ballots_as i low (s.ballots i low);
    vote = λ i x low e. vote_as x (s.vote i x low (held i x low e));
    pair = λ i j x y low within e h. pair_as x y (s.pair i j x y low within (held i x low e) (held j y within h));
  }

-- ---- runs

-- the worlds differ at most in what is kept from node n on
pub record IsSameBelow (n : ℕ) (w v : World) : Type 0 where
  pub nodes : (i : ℕ) → i < n → w.nodes i ≡ v.nodes i
  pub sent : w.sent ≡ v.sent
  pub begun : w.begun ≡ v.begun
  pub learned : w.learned ≡ v.learned

shown_as : (n : ℕ) (a b : ℕ → KeptPart) → ((i : ℕ) → i < n → a i ≡ b i) → shown n a ≡ shown n b
shown_as zero a b same = refl
shown_as (suc n) a b same =
    ap (λ (k : KeptPart). (shown_start k.started ++ shown_vote n k.accepted) ++ shown n a) (same n (omega arith))
    ∙ ap (λ (ms : List Msg). (shown_start (b n).started ++ shown_vote n (b n).accepted) ++ ms) (shown_as n a b (λ i low. same i (omega arith)))

opening_as : (n : ℕ) (a b : ℕ → KeptPart) → ((i : ℕ) → i < n → a i ≡ b i) → IsSameBelow n (opening n a) (opening n b)
opening_as n a b same = record { nodes = same; sent = shown_as n a b same; begun = refl; learned = refl }

module _ (q : Sizes) (w v : World) (s : IsSameBelow q.nodes w v) where
  offered_as : (u : ℕ) → HasOffered q.nodes w.nodes u → HasOffered q.nodes v.nodes u
  offered_as u h = (h.0, subst (λ (k : KeptPart). IsTrue k.offered) (s.nodes u h.0) h.1)

  has_as : (m : Msg) → Has m w.sent → Has m v.sent
  has_as m h = subst (λ (ms : List Msg). Has m ms) s.sent h

  choice_as : (b u : ℕ) → IsSafeChoice q w b u → IsSafeChoice q v b u
  choice_as b u h = record {
    members = h.members;
    reports = h.reports;
    quorum = h.quorum;
    promises = λ a below member. has_as _ (h.promises a below member);
    choice = elim h.choice [
      | inl free ↦ inl (free.0, offered_as u free.1)
      | inr highest ↦ inr highest
    ];
  }

  pub allowed_as : (l : Label) → Allowed q w l → Allowed q v l
  allowed_as (Offers i) ok = (ok.0, subst (λ (k : KeptPart). k.offered ≡ false) (s.nodes i ok.0) ok.1)
  allowed_as (Starts i b) ok = (ok.0, ok.1, subst (λ (k : KeptPart). k.started < b) (s.nodes i ok.0) ok.2)
  allowed_as (Promises a b) ok = (ok.0, has_as _ ok.1, subst (λ (k : KeptPart). k.promised < b) (s.nodes a ok.0) ok.2)
  allowed_as (Proposes b u) ok =
      (subst (λ (bs : List ℕ). Has b bs) s.begun ok.0, λ x h. ok.1 x (subst (λ (ms : List Msg). Has (Propose b x) ms) (sym s.sent) h), choice_as b u ok.2)
  allowed_as (Accepts a b u) ok = (ok.0, has_as _ ok.1, subst (λ (k : KeptPart). k.promised ≤ b) (s.nodes a ok.0) ok.2)
  allowed_as (Learns i u) ok =
      (ok.0, (ok.1.0, record { members = ok.1.1.members; quorum = ok.1.1.quorum; votes = λ a below member. has_as _ (ok.1.1.votes a below member) }))
  allowed_as (Restarts i) ok = ok

  put_as : (i j : ℕ) (f : KeptPart → KeptPart) (t : Bool) → i < q.nodes → j < q.nodes → cond t (f (w.nodes i)) (w.nodes j) ≡ cond t (f (v.nodes i)) (v.nodes j)
  put_as i j f true low below = ap f (s.nodes i low)
  put_as i j f false low below = s.nodes j below

  pub after_as : (l : Label) → Allowed q w l → IsSameBelow q.nodes (after w l) (after v l)
  after_as (Offers i) ok =
      record { nodes = λ j below. put_as i j with_offer (eqb j i) ok.0 below; sent = s.sent; begun = s.begun; learned = s.learned }
  after_as (Starts i b) ok = record {
    nodes = λ j below. put_as i j (with_start b) (eqb j i) ok.0 below;
    sent = ap (λ (ms : List Msg). Prepare b ∷ ms) s.sent;
    begun = ap (λ (bs : List ℕ). b ∷ bs) s.begun;
    learned = s.learned;
  }
  after_as (Promises a b) ok = record {
    nodes = λ j below. put_as a j (with_promise b) (eqb j a) ok.0 below;
    sent =
        ap (λ (k : KeptPart). Promise a b k.accepted ∷ w.sent) (s.nodes a ok.0)
        ∙ ap (λ (ms : List Msg). Promise a b (v.nodes a).accepted ∷ ms) s.sent;
    begun = s.begun;
    learned = s.learned;
  }
  after_as (Proposes b u) ok =
      record { nodes = s.nodes; sent = ap (λ (ms : List Msg). Propose b u ∷ ms) s.sent; begun = s.begun; learned = s.learned }
  after_as (Accepts a b u) ok = record {
    nodes = λ j below. put_as a j (with_vote (vote b u)) (eqb j a) ok.0 below;
    sent = ap (λ (ms : List Msg). Accepted a b u ∷ ms) s.sent;
    begun = s.begun;
    learned = s.learned;
  }
  after_as (Learns i u) ok =
      record { nodes = s.nodes; sent = s.sent; begun = s.begun; learned = ap (λ (ls : List (ℕ × ℕ)). (i, u) ∷ ls) s.learned }
  after_as (Restarts i) ok = s

run_from : (q : Sizes) (w v : World) (steps : List Label) → IsSameBelow q.nodes w v → IsRun q w steps
    → IsRun q v steps × IsSameBelow q.nodes (reached w steps) (reached v steps)
run_from q w v [] s run = (tt, s)
run_from q w v (l ∷ steps) s run =
    let before = run_from q w v steps s run.0 in
    ((before.0, allowed_as q (reached w steps) (reached v steps) before.1 l run.1), after_as q (reached w steps) (reached v steps) before.1 l run.1)

-- a run of a room that opens with the one is a run of the room that opens with the other
pub run_as : (q : Sizes) (a b : ℕ → KeptPart) (steps : List Label) → ((i : ℕ) → i < q.nodes → a i ≡ b i) → IsRun q (opening q.nodes a) steps
    → IsRun q (opening q.nodes b) steps × IsSameBelow q.nodes (reached (opening q.nodes a) steps) (reached (opening q.nodes b) steps)
run_as q a b steps same run = run_from q (opening q.nodes a) (opening q.nodes b) steps (opening_as q.nodes a b same) run
