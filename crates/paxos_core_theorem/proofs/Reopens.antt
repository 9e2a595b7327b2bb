-- A room that is opened again from the kept parts that a run left goes on as that run would, with its other messages unused.
use Rattle.std.proofs.Common.{◌≡◌, ℕ, ◌<◌, ◌≤◌, ◌⊎◌, List, [], ◌∷◌, ◌++◌, inl, inr, refl, sym, ap, subst, arith, false}
use Rattle.paxos_core_world.specs.Ballot.{Owns}
use Rattle.paxos_core_world.specs.KeptPart.{KeptPart, with_offer, with_start, with_promise, with_vote, vote}
use Rattle.paxos_core_world.specs.Run.{reached, IsRun}
use Rattle.paxos_core_world.specs.Quorum.{Sizes}
use Rattle.paxos_core_world.specs.Step.{Label, Offers, Starts, Promises, Proposes, Accepts, Learns, Restarts, Allowed, after, HasOffered, IsSafeChoice}
use Rattle.paxos_core_world.specs.World.{World, Has, put, opening}
use Rattle.paxos_core_world.specs.declared.msg.Msg.{Msg}
use Rattle.paxos_core_world.specs.declared.msg.Msg.TheVariants.{Promise, Propose}
use Rattle.paxos_core_invariant.specs.Invariant.{Invariant}
use Rattle.paxos_core_invariant.proofs.Keeps.{keeps_run}
use Rattle.paxos_core_invariant.proofs.Moves.{message_stays, learned_stays, proposal_was, begun_was}
use Rattle.paxos_core_invariant.proofs.Opens.{ShownBy, shown_was}
use Rattle.paxos_core_theorem.proofs.Theorem.{learns_one, holds}
use Rattle.paxos_core_theorem.specs.Agreement.{ReopeningsGoOn, ReopeningsLearnAsBefore}

-- the first world is a part of the second: the same kept parts, and of its messages, begun ballots and learned values some;
-- of a ballot begun in the first, all proposals
pub record IsPartOf (part w : World) : Type 0 where
  pub nodes : part.nodes ≡ w.nodes
  pub sent : (m : Msg) → Has m part.sent → Has m w.sent
  pub begun : (b : ℕ) → Has b part.begun → Has b w.begun
  pub learned : (i v : ℕ) → Has (i, v) part.learned → Has (i, v) w.learned
  pub proposals : (b v : ℕ) → Has b part.begun → Has (Propose b v) w.sent → Has (Propose b v) part.sent

-- what a step needs in the part, it has in the whole
choice_carries : (q : Sizes) (part w : World) → IsPartOf part w → (b v : ℕ) → IsSafeChoice q part b v → IsSafeChoice q w b v
choice_carries q part w s b v h =
    record {
      members = h.members;
      reports = h.reports;
      quorum = h.quorum;
      promises = λ a below member. s.sent _ (h.promises a below member);
      choice = elim h.choice [
        | inl free ↦ inl (free.0, subst (λ (nodes : ℕ → KeptPart). HasOffered q.nodes nodes v) s.nodes free.1)
        | inr highest ↦ inr highest
      ];
    }

pub allowed_carries : (q : Sizes) (part w : World) (l : Label) → IsPartOf part w → Allowed q part l → Allowed q w l
allowed_carries q part w (Offers i) s ok = (ok.0, subst (λ (nodes : ℕ → KeptPart). (nodes i).offered ≡ false) s.nodes ok.1)
allowed_carries q part w (Starts i b) s ok = (ok.0, ok.1, subst (λ (nodes : ℕ → KeptPart). (nodes i).started < b) s.nodes ok.2)
allowed_carries q part w (Promises a b) s ok = (ok.0, s.sent _ ok.1, subst (λ (nodes : ℕ → KeptPart). (nodes a).promised < b) s.nodes ok.2)
allowed_carries q part w (Proposes b v) s ok = (s.begun b ok.0, λ x h. ok.1 x (s.proposals b x ok.0 h), choice_carries q part w s b v ok.2)
allowed_carries q part w (Accepts a b v) s ok = (ok.0, s.sent _ ok.1, subst (λ (nodes : ℕ → KeptPart). (nodes a).promised ≤ b) s.nodes ok.2)
allowed_carries q part w (Learns i v) s ok =
    (ok.0, (ok.1.0, record { members = ok.1.1.members; quorum = ok.1.1.quorum; votes = λ a below member. s.sent _ (ok.1.1.votes a below member) }))
allowed_carries q part w (Restarts i) s ok = ok

-- a step leaves the one a part of the other
nodes_carry : (part w : World) (l : Label) → part.nodes ≡ w.nodes → (after part l).nodes ≡ (after w l).nodes
nodes_carry part w (Offers i) e = ap (λ (nodes : ℕ → KeptPart). put nodes i (with_offer (nodes i))) e
nodes_carry part w (Starts i b) e = ap (λ (nodes : ℕ → KeptPart). put nodes i (with_start b (nodes i))) e
nodes_carry part w (Promises a b) e = ap (λ (nodes : ℕ → KeptPart). put nodes a (with_promise b (nodes a))) e
nodes_carry part w (Proposes b v) e = e
nodes_carry part w (Accepts a b v) e = ap (λ (nodes : ℕ → KeptPart). put nodes a (with_vote (vote b v) (nodes a))) e
nodes_carry part w (Learns i v) e = e
nodes_carry part w (Restarts i) e = e

other : {A B C : Type 0} → (A → B) → C ⊎ A → C ⊎ B
other f (inl x) = inl x
other f (inr y) = inr (f y)

sent_carries : (part w : World) (l : Label) → IsPartOf part w → (m : Msg) → Has m (after part l).sent → Has m (after w l).sent
sent_carries part w (Offers i) s m h = s.sent m h
sent_carries part w (Starts i b) s m h = other (s.sent m) h
sent_carries part w (Promises a b) s m h = elim h [
  | inl e ↦ inl (subst (λ (nodes : ℕ → KeptPart). m ≡ Promise a b (nodes a).accepted) s.nodes e)
  | inr old ↦ inr (s.sent m old)
]
sent_carries part w (Proposes b v) s m h = other (s.sent m) h
sent_carries part w (Accepts a b v) s m h = other (s.sent m) h
sent_carries part w (Learns i v) s m h = s.sent m h
sent_carries part w (Restarts i) s m h = s.sent m h

begun_carries : (part w : World) (l : Label) → IsPartOf part w → (b : ℕ) → Has b (after part l).begun → Has b (after w l).begun
begun_carries part w (Offers i) s b h = s.begun b h
begun_carries part w (Starts i c) s b h = other (s.begun b) h
begun_carries part w (Promises a c) s b h = s.begun b h
begun_carries part w (Proposes c v) s b h = s.begun b h
begun_carries part w (Accepts a c v) s b h = s.begun b h
begun_carries part w (Learns i v) s b h = s.begun b h
begun_carries part w (Restarts i) s b h = s.begun b h

learned_carries : (part w : World) (l : Label) → IsPartOf part w → (i v : ℕ) → Has (i, v) (after part l).learned → Has (i, v) (after w l).learned
learned_carries part w (Offers j) s i v h = s.learned i v h
learned_carries part w (Starts j c) s i v h = s.learned i v h
learned_carries part w (Promises a c) s i v h = s.learned i v h
learned_carries part w (Proposes c u) s i v h = s.learned i v h
learned_carries part w (Accepts a c u) s i v h = s.learned i v h
learned_carries part w (Learns j u) s i v h = other (s.learned i v) h
learned_carries part w (Restarts j) s i v h = s.learned i v h

-- nothing was proposed under a ballot before it is begun
unproposed : (q : Sizes) (w : World) → Invariant q w → (i b v : ℕ) → (i < q.nodes) × Owns q.nodes i b × ((w.nodes i).started < b) → Has (Propose b v) w.sent → ⊥
unproposed q w s i b v step h =
    let low : b ≤ (w.nodes i).started = s.prepared i b step.0 (s.begun b (s.proposed b v h)) step.1 in absurd (omega arith)

proposals_carry : (q : Sizes) (part w : World) (l : Label) → Invariant q w → IsPartOf part w → Allowed q part l → (b v : ℕ)
    → Has b (after part l).begun → Has (Propose b v) (after w l).sent → Has (Propose b v) (after part l).sent
proposals_carry q part w l inv s ok b v begun h = both (begun_was part l b begun) (proposal_was w l b v h)
  where
    both : Has b part.begun ⊎ ((i : ℕ) × (l ≡ Starts i b)) → Has (Propose b v) w.sent ⊎ (l ≡ Proposes b v) → Has (Propose b v) (after part l).sent
    both (inl before) (inl old) = message_stays part l _ (s.proposals b v before old)
    both (inr new) (inl old) =
        let step : Allowed q w (Starts new.0 b) = subst (Allowed q w) new.1 (allowed_carries q part w l s ok) in
        absurd (unproposed q w inv new.0 b v step old)
    both _ (inr e) = subst (λ (x : Label). Has (Propose b v) (after part x).sent) (sym e) (inl refl)

pub part_carries : (q : Sizes) (part w : World) (l : Label) → Invariant q w → IsPartOf part w → Allowed q part l → IsPartOf (after part l) (after w l)
part_carries q part w l inv s ok = record {
  nodes = nodes_carry part w l s.nodes;
  sent = sent_carries part w l s;
  begun = begun_carries part w l s;
  learned = learned_carries part w l s;
  proposals = proposals_carry q part w l inv s ok;
}

-- the opening of a world's kept parts is a part of it
shown_sent : (q : Sizes) (w : World) → Invariant q w → (m : Msg) → (i : ℕ) × (i < q.nodes) × ShownBy i (w.nodes i) m → Has m w.sent
shown_sent q w s m (i, below, inl start) = subst (λ (x : Msg). Has x w.sent) (sym start.0) (s.started i below start.1)
shown_sent q w s m (i, below, inr voted) = subst (λ (x : Msg). Has x w.sent) (sym voted.2) (s.kept i voted.0 below voted.1)

pub opening_part : (q : Sizes) (w : World) → Invariant q w → IsPartOf (opening q.nodes w.nodes) w
opening_part q w s = record {
  nodes = refl;
  sent = λ m h. shown_sent q w s m (shown_was q.nodes w.nodes m h);
  begun = λ b h. absurd h;
  learned = λ i v h. absurd h;
  proposals = λ b v h. absurd h;
}

-- ---- the runs

pub reached-append : (w : World) (later before : List Label) → reached w (later ++ before) ≡ reached (reached w before) later
reached-append w [] before = refl
reached-append w (l ∷ later) before = ap (λ (x : World). after x l) (reached-append w later before)

pub run_append : (q : Sizes) (w : World) (later before : List Label) → IsRun q w before → IsRun q (reached w before) later → IsRun q w (later ++ before)
run_append q w [] before run more = run
run_append q w (l ∷ later) before run more =
    (run_append q w later before run more.0, subst (λ (x : World). Allowed q x l) (sym (reached-append w later before)) more.1)

-- the steps of a reopened room are steps of the room that was left
goes_on : (q : Sizes) (w : World) (steps : List Label) → Invariant q w → IsRun q (opening q.nodes w.nodes) steps
    → IsRun q w steps × IsPartOf (reached (opening q.nodes w.nodes) steps) (reached w steps)
goes_on q w [] s run = (tt, opening_part q w s)
goes_on q w (l ∷ steps) s run =
    let before = goes_on q w steps s run.0 in
    let part = reached (opening q.nodes w.nodes) steps in
    let inv = keeps_run q w steps s before.0 in
    ((before.0, allowed_carries q part (reached w steps) l before.1 run.1), part_carries q part (reached w steps) l inv before.1 run.1)

learned_along : (w : World) (steps : List Label) (i v : ℕ) → Has (i, v) w.learned → Has (i, v) (reached w steps).learned
learned_along w [] i v h = h
learned_along w (l ∷ steps) i v h = learned_stays (reached w steps) l i v (learned_along w steps i v h)

-- ---- the promises

pub reopenings_go_on : ReopeningsGoOn
reopenings_go_on q nodes before later h =
    let w = reached (opening q.nodes nodes) before in
    run_append q (opening q.nodes nodes) later before h.first.run (goes_on q w later (holds q nodes before h.first) h.again).0

pub reopenings_learn_as_before : ReopeningsLearnAsBefore
reopenings_learn_as_before q nodes before later h i j v u left right =
    let w = reached (opening q.nodes nodes) before in
    let inv = holds q nodes before h.first in
    let on = goes_on q w later inv h.again in
    learns_one q (reached w later) (keeps_run q w later inv on.0) i j v u (learned_along w later i v left) (on.1.learned j u right)
