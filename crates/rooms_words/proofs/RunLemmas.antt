-- Runs as views keep them, and what steps of others leave.
use Rattle.std.proofs.Common.{◌≡◌, ◌≢◌, ℕ, ◌<◌, ◌⊎◌, List, [], ◌∷◌, ◌++◌, append_assoc, refl, sym, ap, ◌∙◌, subst, inl, inr}
use Rattle.paxos_core_world.specs.Ballot.{Owns}
use Rattle.paxos_core_world.specs.KeptPart.{KeptPart, without_offer}
use Rattle.paxos_core_world.specs.Quorum.{Sizes}
use Rattle.paxos_core_world.specs.Run.{IsRun, reached}
use Rattle.paxos_core_world.specs.Settled.{Settled}
use Rattle.paxos_core_world.specs.Step.{Label, Offers, Starts, Promises, Proposes, Accepts, Learns, Restarts, Allowed}
use Rattle.paxos_core_world.specs.World.{World, opening, nodes_of}
use Rattle.paxos_core.proofs.Reopens.{reached-append, run_append}
use Rattle.paxos_core.proofs.Theorem.{runs_stay_settled}
use Rattle.paxos_core.specs.Agreement.{world_of}
use Rattle.paxos_core.specs.NodeState.{NodeState}
use Rattle.paxos_core.specs.Reached.{IsReached}
use Rattle.paxos_core.specs.Takes.{AreStepsOf}
use Rattle.paxos_core.specs.LateOffer.{BelongsWithLateOffer}
use Rattle.paxos_core.proofs.LateLemmas.{others_leave_it}
use Rattle.rooms_words.specs.declared.event.Event.{Event}
use Rattle.rooms_words.specs.declared.view.Opening.{Opening}
use Rattle.rooms_words.specs.Events.{label_of, event_of, labels_of, events_of}
use Rattle.rooms_words.specs.Views.{world_after, IsLegal, BeginsWith, AreStepsOfOthers}

label_of-event : (l : Label) → label_of (event_of l) ≡ l
label_of-event (Offers i) = refl
label_of-event (Starts i b) = refl
label_of-event (Promises a b) = refl
label_of-event (Proposes b v) = refl
label_of-event (Accepts a b v) = refl
label_of-event (Learns i v) = refl
label_of-event (Restarts i) = refl

-- what is kept of more steps
pub labels_of-events : (ls : List Label) (run : List Event) → labels_of (events_of ls ++ run) ≡ ls ++ labels_of run
labels_of-events [] run = refl
labels_of-events (l ∷ ls) run = λ k. label_of-event l k ∷ labels_of-events ls run k

pub labels_of-append : (xs ys : List Event) → labels_of (xs ++ ys) ≡ labels_of xs ++ labels_of ys
labels_of-append [] ys = refl
labels_of-append (x ∷ xs) ys = ap (λ ls. label_of x ∷ ls) (labels_of-append xs ys)

-- the world after more steps
pub world_after-events : (o : Opening) (ls : List Label) (run : List Event) → world_after o (events_of ls ++ run) ≡ reached (world_after o run) ls
world_after-events o ls run =
    ap (λ (x : List Label). world_of o.quorums.nodes (nodes_of o.kept) x) (labels_of-events ls run) ∙ reached-append (opening o.quorums.nodes (nodes_of o.kept)) ls (labels_of run)

pub world_after-append : (o : Opening) (later run : List Event) → world_after o (later ++ run) ≡ reached (world_after o run) (labels_of later)
world_after-append o later run =
    ap (λ (x : List Label). world_of o.quorums.nodes (nodes_of o.kept) x) (labels_of-append later run) ∙ reached-append (opening o.quorums.nodes (nodes_of o.kept)) (labels_of later) (labels_of run)

pub legal_more : (o : Opening) (ls : List Label) (run : List Event) → IsLegal o run → IsRun o.quorums (world_after o run) ls → IsLegal o (events_of ls ++ run)
legal_more o ls run h r =
    record {
      sizes = h.sizes;
      settled = h.settled;
      run =
          subst (λ (x : List Label). IsRun o.quorums (opening o.quorums.nodes (nodes_of o.kept)) x) (sym (labels_of-events ls run))
          (run_append o.quorums (opening o.quorums.nodes (nodes_of o.kept)) ls (labels_of run) h.run r);
    }

pub legal_reached : (o : Opening) (run : List Event) → IsLegal o run → IsReached o.quorums (world_after o run)
legal_reached o run h = record { nodes = nodes_of o.kept; steps = labels_of run; run = h; world = refl }

run_tail : (q : Sizes) (w : World) (later before : List Label) → IsRun q w (later ++ before) → IsRun q w before
run_tail q w [] before h = h
run_tail q w (l ∷ later) before h = run_tail q w later before h.0

run_head : (q : Sizes) (w : World) (later before : List Label) → IsRun q w (later ++ before) → IsRun q (reached w before) later
run_head q w [] before h = tt
run_head q w (l ∷ later) before h = (run_head q w later before h.0, subst (λ (x : World). Allowed q x l) (reached-append w later before) h.1)

-- a beginning of a run is one, and what comes behind it is a run from there
pub legal_before : (o : Opening) (later run : List Event) → IsLegal o (later ++ run) → IsLegal o run
legal_before o later run h =
    record {
      sizes = h.sizes;
      settled = h.settled;
      run =
          run_tail o.quorums (opening o.quorums.nodes (nodes_of o.kept)) (labels_of later) (labels_of run)
          (subst (λ (x : List Label). IsRun o.quorums (opening o.quorums.nodes (nodes_of o.kept)) x) (labels_of-append later run) h.run);
    }

pub run_behind : (o : Opening) (later run : List Event) → IsLegal o (later ++ run) → IsRun o.quorums (world_after o run) (labels_of later)
run_behind o later run h =
    run_head o.quorums (opening o.quorums.nodes (nodes_of o.kept)) (labels_of later) (labels_of run)
    (subst (λ (x : List Label). IsRun o.quorums (opening o.quorums.nodes (nodes_of o.kept)) x) (labels_of-append later run) h.run)

pub begins_longer : (more run first : List Event) → BeginsWith run first → BeginsWith (more ++ run) first
begins_longer more run first h = (more ++ h.0, ap (λ (x : List Event). more ++ x) h.1 ∙ sym (append_assoc more h.0 first))

pub begins_through : (run mid first : List Event) → BeginsWith run mid → BeginsWith mid first → BeginsWith run first
begins_through run mid first h k = (h.0 ++ k.0, h.1 ∙ (ap (λ (x : List Event). h.0 ++ x) k.1 ∙ sym (append_assoc h.0 k.0 first)))

-- ---- steps of others

pub others-append : (n i : ℕ) (xs ys : List Label) → AreStepsOfOthers n i xs → AreStepsOfOthers n i ys → AreStepsOfOthers n i (xs ++ ys)
others-append n i [] ys h k = k
others-append n i (x ∷ xs) ys h k = (h.0, others-append n i xs ys h.1 k)

pub others_of_own : (n i j : ℕ) (ls : List Label) → AreStepsOf n j ls → i ≢ j → AreStepsOfOthers n i ls
others_of_own n i j [] h d = tt
others_of_own n i j (l ∷ ls) h d = ((j, h.0, d), others_of_own n i j ls h.1 d)

pub others_leave : (q : Sizes) (w : World) (s : NodeState) (ls : List Label) → AreStepsOfOthers q.nodes s.me ls → BelongsWithLateOffer q w s → BelongsWithLateOffer q (reached w ls) s
others_leave q w s [] o h = h
others_leave q w s (l ∷ ls) o h =
    let first = o.0 in
    (others_leave_it q (reached w ls) l s first.0 first.1 first.2).1 (others_leave q w s ls o.1 h)

-- ---- what is reached

pub reached_more : (q : Sizes) (w : World) (ls : List Label) → IsReached q w → IsRun q w ls → IsReached q (reached w ls)
reached_more q w ls r h =
    record {
      nodes = r.nodes;
      steps = ls ++ r.steps;
      run =
          record {
            sizes = r.run.sizes;
            settled = r.run.settled;
            run = run_append q (opening q.nodes r.nodes) ls r.steps r.run.run (subst (λ (x : World). IsRun q x ls) r.world h);
          };
      world = ap (λ (x : World). reached x ls) r.world ∙ sym (reached-append (opening q.nodes r.nodes) ls r.steps);
    }

-- what a node has started is its own
pub started_own : (q : Sizes) (w : World) (i : ℕ) → IsReached q w → i < q.nodes → ((w.nodes i).started ≡ 0) ⊎ Owns q.nodes i (w.nodes i).started
started_own q w i r h =
    let all : Settled q w.nodes = subst (λ (x : World). Settled q x.nodes) (sym r.world) (runs_stay_settled q r.nodes r.steps r.run) in
    (all.ballots i h).own

-- ---- what stands in the world of a node that belongs to it

-- a part of what is kept, that is not the offer, is the node's
pub kept_of : {A : Type 0} (q : Sizes) (w : World) (s : NodeState) (f : KeptPart → A) → ((k : KeptPart) → f (without_offer k) ≡ f k) → BelongsWithLateOffer q w s → f (w.nodes s.me) ≡ f s.kept
kept_of q w s f same (inl h) = ap f h.kept
kept_of q w s f same (inr h) = ap f h.kept ∙ same s.kept
