-- What a node may have recorded where its seat has seen it, it may have recorded after a run in which it rests.
use Rattle.std.proofs.Common.{◌≡◌, ℕ, ◌<◌, ◌⊎◌, List, [], ◌∷◌, refl, sym, ap, ◌∙◌, subst, inl, inr}
use Rattle.paxos_core_world.specs.KeptPart.{KeptPart}
use Rattle.paxos_core_world.specs.Quorum.{Sizes}
use Rattle.paxos_core_world.specs.Run.{IsRun, reached}
use Rattle.paxos_core_world.specs.Step.{Label, Offers, Starts, Promises, Proposes, Accepts, Learns, Restarts, after}
use Rattle.paxos_core_world.specs.World.{World, Has, nodes_of, opening as world_opening}
use Rattle.paxos_core_node_steps.proofs.WorldLemmas.{grows_by}
use Rattle.paxos_core_node_steps.specs.Reached.{IsReached}
use Rattle.paxos_core_crash.specs.Crash.{IsRecorded}
use Rattle.paxos_core_crash.proofs.CrashLemmas.{crashes_learn_as_before}
use Rattle.paxos_core_crash.proofs.OthersLemmas.{IsAheadBut, ahead_of_none, others_steps, run_ahead}
use Rattle.rooms_words.specs.declared.event.Event.{Event}
use Rattle.rooms_words.specs.Events.{labels_of}
use Rattle.rooms_words.specs.declared.view.Opening.{Opening}
use Rattle.rooms_meeting.specs.SeatState.{SeatState, seen_world}
use Rattle.rooms_words.specs.Views.{IsLegal, IsStepOfOther, world_after}
use Rattle.rooms_words.proofs.RunLemmas.{legal_reached, world_after-append}
use Rattle.rooms_crash.proofs.Holding.{held_is_recorded}
use Rattle.rooms_crash.proofs.Keeping.{opened_of_run}
use Rattle.rooms_crash.specs.Rest.{IsNote, LearnsAgain, OpenedRest, RestLeaves, Rests, Spare}

note_spares : (n i : ℕ) (w v : World) (l : Label) → IsNote l → IsAheadBut n i w v → IsAheadBut n i w (after v l)
note_spares n i w v (Offers j) t s = absurd t
note_spares n i w v (Starts j b) t s = absurd t
note_spares n i w v (Promises j b) t s = absurd t
note_spares n i w v (Proposes b u) t s = absurd t
note_spares n i w v (Accepts j b u) t s = absurd t
note_spares n i w v (Learns j u) t s =
    record { own = s.own; offered = s.offered; sent = s.sent; begun = s.begun; unproposed = s.unproposed }
note_spares n i w v (Restarts j) t s = s

step_spares : (n i : ℕ) (w v : World) (l : Label) → IsStepOfOther n i l ⊎ IsNote l → IsAheadBut n i w v → IsAheadBut n i w (after v l)
step_spares n i w v l (inl o) s = others_steps n o.0 i w v (l ∷ []) o.2 (o.1, tt) s
step_spares n i w v l (inr t) s = note_spares n i w v l t s

steps_spare : (n i : ℕ) (w v : World) (ls : List Label) → Spare n i ls → IsAheadBut n i w v → IsAheadBut n i w (reached v ls)
steps_spare n i w v [] t s = s
steps_spare n i w v (l ∷ ls) t s = step_spares n i w (reached v ls) l t.0 (steps_spare n i w v ls t.1 s)

recorded_ahead : (q : Sizes) (w v : World) (i : ℕ) (k : KeptPart) → IsAheadBut q.nodes i w v → IsRecorded q w i k → IsRecorded q v i k
recorded_ahead q w v i k s h =
    let goes = run_ahead q i w v h.steps s h.own h.run in
    record { steps = h.steps; own = h.own; run = goes.0; kept = goes.1.own ∙ h.kept }

module _ (q : Sizes) (o : Opening) (s : SeatState) (i : ℕ) (left : KeptPart) (quorums : o.quorums ≡ q) (opening : s.view.opening ≡ o) (me : s.node.me ≡ i) where
  rest_spares : (ls : List Label) → Spare s.view.opening.quorums.nodes s.node.me ls → Spare q.nodes i ls
  rest_spares ls h =
      subst (λ (j : ℕ). Spare q.nodes j ls) me
      (subst (λ (p : Sizes). Spare p.nodes s.node.me ls) (ap (λ (x : Opening). x.quorums) opening ∙ quorums) h)

  recorded_behind : (w : World) (ls : List Label) → w ≡ reached (seen_world s) ls → Spare s.view.opening.quorums.nodes s.node.me ls
      → IsRecorded q (seen_world s) i left → IsRecorded q w i left
  recorded_behind w ls e spare h =
      subst (λ (x : World). IsRecorded q x i left) (sym e)
      (recorded_ahead q (seen_world s) (reached (seen_world s) ls) i left
      (steps_spare q.nodes i (seen_world s) (seen_world s) ls (rest_spares ls spare) (ahead_of_none q.nodes i (seen_world s))) h)

pub rest_leaves : RestLeaves
rest_leaves q o run seats left h holds = record {
  reached = subst (λ (p : Sizes). IsReached p (world_after o run)) h.quorums (legal_reached o run h.legal);
  recorded = λ i lt. at i lt (h.rests i lt);
}
  where
    sizes : (i : ℕ) → i < q.nodes → (seats i).view.opening.quorums ≡ q
    sizes i lt = ap (λ (x : Opening). x.quorums) (h.opening i lt) ∙ h.quorums

    recorded : (i : ℕ) → i < q.nodes → IsRecorded q (seen_world (seats i)) i (left i)
    recorded i lt =
        subst (λ (p : Sizes). IsRecorded p (seen_world (seats i)) i (left i)) (sizes i lt)
        (subst (λ k. IsRecorded (seats i).view.opening.quorums (seen_world (seats i)) k (left i)) (h.me i lt)
        (held_is_recorded (seats i) (left i) (h.stands i lt) (holds i lt)))

    at : (i : ℕ) → i < q.nodes → Rests run (seats i) → IsRecorded q (world_after o run) i (left i)
    at i lt r =
        recorded_behind q o (seats i) i (left i) h.quorums (h.opening i lt) (h.me i lt) (world_after o run) (labels_of r.behind)
        ((λ x. world_after (sym (h.opening i lt) x) (r.run_is x)) ∙ world_after-append (seats i).view.opening r.behind (seats i).view.seen)
        r.spare (recorded i lt)

pub opened_rest : OpenedRest
opened_rest table o can = record {
  quorums = refl;
  legal = record { sizes = can.sizes; settled = can.settled; run = tt };
  opening = λ i lt. refl;
  me = λ i lt. refl;
  stands = λ i lt. (opened_of_run table o i can lt).stands;
  rests = λ i lt. record { behind = []; run_is = refl; spare = tt };
}

-- ---- what is learned again

module _ (q : Sizes) (again : Opening) (t : SeatState) (same : again.quorums ≡ q) (is : t.view.opening ≡ again) where
  later_run : IsLegal t.view.opening t.view.seen → IsRun q (world_opening q.nodes (nodes_of again.kept)) (labels_of t.view.seen)
  later_run legal =
      subst (λ (p : Sizes). IsRun p (world_opening p.nodes (nodes_of again.kept)) (labels_of t.view.seen)) same
      (subst (λ (x : Opening). IsLegal x t.view.seen) is legal).run

  later_learned : (p : ℕ × ℕ) → Has p (seen_world t).learned → Has p (reached (world_opening q.nodes (nodes_of again.kept)) (labels_of t.view.seen)).learned
  later_learned p has =
      subst (λ (x : Sizes). Has p (reached (world_opening x.nodes (nodes_of again.kept)) (labels_of t.view.seen)).learned) same
      (subst (λ (x : Opening). Has p (world_after x t.view.seen).learned) is has)

-- what was learned before is so after the run
learned_on : (o : Opening) (run : List Event) (s : SeatState) → s.view.opening ≡ o → Rests run s → (p : ℕ × ℕ) → Has p (seen_world s).learned → Has p (world_after o run).learned
learned_on o run s e r p has =
    subst (λ (x : World). Has p x.learned) (sym ((λ x. world_after (sym e x) (r.run_is x)) ∙ world_after-append s.view.opening r.behind s.view.seen))
    ((grows_by (seen_world s) (labels_of r.behind)).learned p has)

pub learns_again : LearnsAgain
learns_again q o run seats again h same holds i v u later lt known later_known is ev eu =
    crashes_learn_as_before q (world_after o run) (nodes_of again.kept) (labels_of later.view.seen)
    (rest_leaves q o run seats (nodes_of again.kept) h holds) (later_run q again later same is later_known.legal)
    (seats i).node.me later.node.me v u
    (learned_on o run (seats i) (h.opening i lt) (h.rests i lt) ((seats i).node.me, v) (known.learned v ev))
    (later_learned q again later same is (later.node.me, u) (later_known.learned u eu))
