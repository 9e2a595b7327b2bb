-- A seat takes steps: they keep the rule, and the seat knows what it did. Each kind of word step rests on this.
use Rattle.std.proofs.Common.{◌≡◌, ◌≢◌, ℕ, ◌+◌, ◌<◌, ◌≤◌, List, [], ◌++◌, set, get_or, append_assoc, Option, refl, sym, ap, ◌∙◌, subst, inl, inr, arith}
use mathlib.Core.Option.{some}
use lib.ListN.{get_elem?}
use Rattle.atomic_table.specs.Table.{State, Me, Act, keeps, Valid, stepped, Allows, carried_after}
use Rattle.atomic_table.proofs.Lists.{at_set}
use Rattle.paxos_core_world.specs.Run.{reached}
use Rattle.paxos_core_world.specs.Step.{Label}
use Rattle.paxos_core_world.specs.World.{World}
use Rattle.paxos_core_world.specs.declared.msg.Msg.{Msg}
use Rattle.paxos_core.specs.NodeState.{NodeState}
use Rattle.paxos_core.specs.Reached.{IsReached}
use Rattle.paxos_core.specs.Takes.{AreStepsOf}
use Rattle.paxos_core.specs.LateOffer.{BelongsWithLateOffer, TakesLate}
use Rattle.rooms_words.specs.declared.event.Event.{Event}
use Rattle.rooms_words.specs.declared.view.Opening.{Opening}
use Rattle.rooms_words.specs.declared.view.View.{View}
use Rattle.rooms_words.specs.Events.{labels_of, events_of}
use Rattle.rooms_words.specs.Rule.{AreApart, RoomRule}
use Rattle.rooms_words.specs.Steps.{Advances}
use Rattle.rooms_words.specs.Views.{world_after, IsLegal, AreStepsOfOthers, IsMine, IsSeated, Fits}
use Rattle.rooms_words.specs.WordsOf.{ShowsWorld}
use Rattle.rooms_words.proofs.RunLemmas.{labels_of-events, world_after-events, legal_more, legal_reached, begins_longer, others-append, others_of_own, others_leave}

pub seated_mine : (v : View) → IsSeated v → IsMine v v.node.me
seated_mine v h = let a : v.first ≡ v.node.me = h.first in let b : v.end ≡ v.node.me + 1 = h.last in (omega arith, omega arith)

only_mine : (v : View) (i : ℕ) → IsSeated v → IsMine v i → i ≡ v.node.me
only_mine v i h m =
    let a : v.first ≡ v.node.me = h.first in
    let b : v.end ≡ v.node.me + 1 = h.last in
    let low : v.first ≤ i = m.0 in
    let high : i < v.end = m.1 in
    omega arith

-- the view with a longer history and its node after it
abbrev pub view_with : View → List Event → NodeState → View
view_with v seen t = record v { seen = seen; node = t }

module _ {S : Type 0} (s : State S View) (id : ℕ) (v : View) (rule : RoomRule v.opening s) (at : get_elem? s.views id ≡ some v) (seated : IsSeated v) where
  abbrev world : World
  world = world_after v.opening rule.run

  -- its node belongs to the world, which is reached by a run
  pub belongs_now : BelongsWithLateOffer v.opening.quorums (world_after v.opening rule.run) v.node
  belongs_now = (rule.views id v at).belongs (seated_mine v seated)

  pub reached_now : IsReached v.opening.quorums (world_after v.opening rule.run)
  reached_now = legal_reached v.opening rule.run rule.legal

  module _ (steps : List Label) (t : NodeState) (m : Option Msg) (takes : TakesLate v.opening.quorums (world_after v.opening rule.run) steps t m) (me : t.me ≡ v.node.me) where
    abbrev run' : List Event
    run' = events_of steps ++ rule.run

    own : AreStepsOf v.opening.quorums.nodes v.node.me steps
    own = subst (λ (i : ℕ). AreStepsOf v.opening.quorums.nodes i steps) me takes.own

    belongs : BelongsWithLateOffer v.opening.quorums (world_after v.opening (events_of steps ++ rule.run)) t
    belongs = subst (λ (x : World). BelongsWithLateOffer v.opening.quorums x t) (sym (world_after-events v.opening steps rule.run)) takes.belongs

    legal : IsLegal v.opening (events_of steps ++ rule.run)
    legal = legal_more v.opening steps rule.run rule.legal takes.run

    pub advances : Advances v steps t (view_with v (events_of steps ++ rule.run) t)
    advances =
        let fits = rule.views id v at in
        record {
          between = fits.later;
          seen = ap (λ (r : List Event). events_of steps ++ r) fits.seen;
          others = fits.quiet v.node.me (seated_mine v seated);
          own = own;
          legal = legal;
          told = begins_longer (events_of steps) rule.run v.told fits.told;
          told_by = fits.told_by seated.live;
          stays = refl;
          belongs = belongs;
        }

    fits_new : Fits v.opening (events_of steps ++ rule.run) (view_with v (events_of steps ++ rule.run) t)
    fits_new =
        record {
          opening = λ _. refl;
          later = [];
          seen = refl;
          quiet = λ i h. tt;
          told = begins_longer (events_of steps) rule.run v.told (rule.views id v at).told;
          told_by = (rule.views id v at).told_by;
          belongs = λ _. belongs;
        }

    fits_other : (u : View) → Fits v.opening rule.run u → ((i : ℕ) → IsMine u i → i ≢ v.node.me) → Fits v.opening (events_of steps ++ rule.run) u
    fits_other u h apart =
        record {
          opening = h.opening;
          later = events_of steps ++ h.later;
          seen = ap (λ (r : List Event). events_of steps ++ r) h.seen ∙ sym (append_assoc (events_of steps) h.later u.seen);
          quiet = λ i mine.
              subst (λ (ls : List Label). AreStepsOfOthers v.opening.quorums.nodes i ls) (sym (labels_of-events steps h.later))
              (others-append v.opening.quorums.nodes i steps (labels_of h.later) (others_of_own v.opening.quorums.nodes i v.node.me steps own (apart i mine)) (h.quiet i mine));
          told = begins_longer (events_of steps) rule.run u.told h.told;
          told_by = h.told_by;
          belongs = λ mine.
              subst (λ (x : World). BelongsWithLateOffer v.opening.quorums x u.node) (sym (world_after-events v.opening steps rule.run))
              (others_leave v.opening.quorums (world_after v.opening rule.run) u.node steps (others_of_own v.opening.quorums.nodes u.node.me v.node.me steps own (apart u.node.me mine)) (h.belongs mine));
        }

    views_fit : (j : ℕ) (u : View) → get_elem? (set s.views id (view_with v (events_of steps ++ rule.run) t)) j ≡ some u → Fits v.opening (events_of steps ++ rule.run) u
    views_fit j u e =
        elim (at_set s.views id j (view_with v (events_of steps ++ rule.run) t) u e) [
          | inl p ↦ subst (λ (x : View). Fits v.opening (events_of steps ++ rule.run) x) p.1 fits_new
          | inr p ↦
              fits_other u (rule.views j u p.1)
              (λ i mine same. p.0 (rule.apart j id i u v p.1 at mine (subst (λ (x : ℕ). IsMine v x) (sym same) (seated_mine v seated))))
        ]

    -- a view of the new table as one of the old, with the same nodes
    before : (j : ℕ) (u : View) → get_elem? (set s.views id (view_with v (events_of steps ++ rule.run) t)) j ≡ some u
        → (x : View) × (get_elem? s.views j ≡ some x) × ((i : ℕ) → IsMine u i → IsMine x i)
    before j u e =
        elim (at_set s.views id j (view_with v (events_of steps ++ rule.run) t) u e) [
          | inl p ↦ (v, subst (λ (k : ℕ). get_elem? s.views k ≡ some v) (sym p.0) at, λ i mine. subst (λ (x : View). IsMine x i) (sym p.1) mine)
          | inr p ↦ (u, p.1, λ i mine. mine)
        ]

    apart_still : AreApart (set s.views id (view_with v (events_of steps ++ rule.run) t))
    apart_still p q i u w e f mu mw =
        let a = before p u e in
        let b = before q w f in
        rule.apart p q i a.0 b.0 a.1 b.1 (a.2 i mu) (b.2 i mw)

    pub keeps_rule : (words : List ℕ) → ShowsWorld v.opening.quorums.nodes (world_after v.opening (events_of steps ++ rule.run)) words
        → RoomRule v.opening record { words = words; homes = s.homes; views = set s.views id (view_with v (events_of steps ++ rule.run) t) }
    keeps_rule words shows = record { run = events_of steps ++ rule.run; legal = legal; words = shows; views = views_fit; apart = apart_still }

-- what a step on word k owes, where the seat's node takes steps: in each state that keeps the rule there are steps that its node
-- takes, after which the world shows the words, and the play is told
pub record Steps {S : Type 0} (v : View) (s : State S View) (rule : RoomRule v.opening s) (words : List ℕ) (Told : View → Type 0) : Type 0 where
  pub steps : List Label
  pub node : NodeState
  pub answer : Option Msg
  pub takes : TakesLate v.opening.quorums (world_after v.opening rule.run) steps node answer
  pub me : node.me ≡ v.node.me
  pub shows : ShowsWorld v.opening.quorums.nodes (reached (world_after v.opening rule.run) steps) words
  pub told : Advances v steps node (view_with v (events_of steps ++ rule.run) node) → Told (view_with v (events_of steps ++ rule.run) node)

pub allows : {S : Type 0} (o : Opening) (slots id : ℕ) (me : Me S View) (k : ℕ) (f : ℕ → ℕ) (then : ℕ → Me S View → Type 0) → IsSeated me.0
    → ((s : State S View) (rule : RoomRule me.0.opening s) → get_elem? s.views id ≡ some me.0 → Steps me.0 s rule (set s.words k (f (get_or s.words k 0))) (λ w. then (get_or s.words k 0) (w, me.1)))
    → Allows (RoomRule o) slots id me k f then
allows {S} o slots id me k f then seated step s rule len at bound =
    subst
    (λ (x : Opening). (w : View) × (a : Act S) × Valid s.homes me.1 a × RoomRule x (stepped s k (f (get_or s.words k 0)) id me.1 w a) × then (get_or s.words k 0) (w, carried_after me.1 a))
    ((rule.views id me.0 at).opening seated.live) (
      view_with me.0 (events_of todo.steps ++ here.run) todo.node,
      keeps,
      tt,
      keeps_rule s id me.0 here at seated todo.steps todo.node todo.answer todo.takes todo.me (set s.words k (f (get_or s.words k 0)))
          (subst (λ (x : World). ShowsWorld me.0.opening.quorums.nodes x (set s.words k (f (get_or s.words k 0)))) (sym (world_after-events me.0.opening todo.steps here.run)) todo.shows),
      todo.told (advances s id me.0 here at seated todo.steps todo.node todo.answer todo.takes todo.me),
    )
  where
    here : RoomRule me.0.opening s
    here = subst (λ (x : Opening). RoomRule x s) (sym ((rule.views id me.0 at).opening seated.live)) rule

    todo : Steps me.0 s here (set s.words k (f (get_or s.words k 0))) (λ w. then (get_or s.words k 0) (w, me.1))
    todo = step s here at
