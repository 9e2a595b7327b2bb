-- Seats that have heard of one of them, as it has of them, rest in the run that this one has seen between.
use Rattle.std.proofs.Common.{◌≡◌, ◌≢◌, ℕ, ◌<◌, ◌⊎◌, List, [], ◌∷◌, sym, ap, ◌∙◌, subst, inl, inr}
use Rattle.std.proofs.lemmas.Bool.{cases_eq}
use Rattle.paxos_core_world.specs.Quorum.{Sizes}
use Rattle.paxos_core_node_steps.specs.NodeState.{NodeState}
use Rattle.rooms_words.specs.declared.event.Event.{Event}
use Rattle.rooms_words.specs.Events.{labels_of}
use Rattle.rooms_words.specs.Views.{BeginsWith, IsLegal}
use Rattle.rooms_words.proofs.RunLemmas.{begins_through}
use Rattle.rooms_meeting.specs.SeatState.{SeatState}
use Rattle.rooms_crash.specs.Meetings.{IsSeatOf, Meetings, Meets}
use Rattle.rooms_crash.specs.Rest.{Rests, Spare}
use Rattle.rooms_crash.proofs.Looking.{OnlyLooked, first_looked, looked_never, looked_on, second_looked, spare_between}
use Rattle.rooms_crash_heard.specs.Heard.{AllHearOf, Hears, HearsOfAll, HeardRest, Tells}

one_meeting : (i j k : ℕ) (old new : ℕ → SeatState) → Meets i j old new → OnlyLooked (old k).view (new k).view
one_meeting i j k old new h = at (cases_eq k i) (cases_eq k j)
  where
    at : (k ≡ i) ⊎ (k ≢ i) → (k ≡ j) ⊎ (k ≢ j) → OnlyLooked (old k).view (new k).view
    at (inl e) other =
        subst (λ (x : ℕ). OnlyLooked (old x).view (new x).view) (sym e) (first_looked (old i) (old j) (new i) (new j) h.met)
    at (inr d) (inl e) =
        subst (λ (x : ℕ). OnlyLooked (old x).view (new x).view) (sym e) (second_looked (old i) (old j) (new i) (new j) h.met)
    at (inr d) (inr c) = subst (λ (x : SeatState). OnlyLooked (old k).view x.view) (sym (h.others k d c)) (looked_never (old k).view)

meetings_look : (ps : List (ℕ × ℕ)) (k : ℕ) (old new : ℕ → SeatState) → Meetings ps old new → OnlyLooked (old k).view (new k).view
meetings_look [] k old new h = subst (λ (x : SeatState). OnlyLooked (old k).view x.view) (sym (h k)) (looked_never (old k).view)
meetings_look (p ∷ ps) k old new h =
    looked_on (old k).view (h.0 k).view (new k).view (meetings_look ps k old h.0 h.1) (one_meeting p.0 p.1 k h.0 new h.2)

-- node j has since seen what node i had seen before, and they are of one room
record HasHeard (i j : ℕ) (old new : ℕ → SeatState) : Type 0 where
  pub seen : BeginsWith (new j).view.seen (old i).view.seen
  pub opening : (old i).view.opening ≡ (new j).view.opening

looking_hears : (k : ℕ) (old new : ℕ → SeatState) → OnlyLooked (old k).view (new k).view → HasHeard k k old new
looking_hears k old new look = record { seen = (look.behind, look.seen); opening = sym look.opening }

told_once : (p : ℕ × ℕ) (k j : ℕ) (old new : ℕ → SeatState) → Meets p.0 p.1 old new → Tells p k j → HasHeard k j old new
told_once p k j old new h (inl e) =
    subst (λ (x : ℕ). HasHeard k x old new) e (looking_hears k old new (one_meeting p.0 p.1 k old new h))
told_once p k j old new h (inr (inl e)) =
    let here : Meets k j old new = subst (λ (x : ℕ × ℕ). Meets x.0 x.1 old new) e h in
    record {
      seen = here.met.second_other;
      opening = sym (first_looked (old k) (old j) (new k) (new j) here.met).opening ∙ here.met.opening;
    }
told_once p k j old new h (inr (inr e)) =
    let here : Meets j k old new = subst (λ (x : ℕ × ℕ). Meets x.0 x.1 old new) e h in
    record {
      seen = here.met.first_other;
      opening = sym (second_looked (old j) (old k) (new j) (new k) here.met).opening ∙ sym here.met.opening;
    }

has_heard : (ps : List (ℕ × ℕ)) (i j : ℕ) (old new : ℕ → SeatState) → Hears ps i j → Meetings ps old new → HasHeard i j old new
has_heard [] i j old new e h =
    subst (λ (x : ℕ). HasHeard i x old new) e (looking_hears i old new (meetings_look [] i old new h))
has_heard (p ∷ ps) i j old new heard h =
    let before = has_heard ps i heard.0 old h.0 heard.1 h.1 in
    let told = told_once p heard.0 j h.0 new h.2 heard.2 in
    record {
      seen = begins_through (new j).view.seen (h.0 heard.0).view.seen (old i).view.seen told.seen before.seen;
      opening = before.opening ∙ told.opening;
    }

module _ (q : Sizes) (h : ℕ) (first second : List (ℕ × ℕ)) (old between new : ℕ → SeatState)
    (before : Meetings first old between) (all : HearsOfAll first q.nodes h) (behind : Meetings second between new) (again : AllHearOf second q.nodes h)
    (seats : (i : ℕ) → i < q.nodes → IsSeatOf q i (old i)) where
  abbrev run : List Event
  run = (between h).view.seen

  heard_of : (i : ℕ) → i < q.nodes → HasHeard i h old between
  heard_of i lt = has_heard first i h old between (all i lt) before

  opening_of : (i : ℕ) → i < q.nodes → (old i).view.opening ≡ (old h).view.opening
  opening_of i lt = (heard_of i lt).opening ∙ (meetings_look first h old between before).opening

  own_spare : (i : ℕ) → i < q.nodes → (ls : List Event) → Spare (old i).view.opening.quorums.nodes (old i).view.node.me (labels_of ls)
      → Spare (old i).view.opening.quorums.nodes (old i).node.me (labels_of ls)
  own_spare i lt ls spare =
      subst (λ (m : ℕ). Spare (old i).view.opening.quorums.nodes m (labels_of ls)) (ap (λ (n : NodeState). n.me) (seats i lt).stands.node) spare

  rests_of : (i : ℕ) → i < q.nodes → Rests run (old i)
  rests_of i lt =
      let look = looked_on (old i).view (between i).view (new i).view (meetings_look first i old between before) (meetings_look second i between new behind) in
      let from : BeginsWith run (old i).view.seen = (heard_of i lt).seen in
      let to : BeginsWith (new i).view.seen run = (has_heard second h i between new (again i lt) behind).seen in
      record { behind = from.0; run_is = from.1; spare = own_spare i lt from.0 (spare_between (old i).view (new i).view run look from to) }

  quorums_of : (i : ℕ) → i < q.nodes → (old i).view.opening.quorums ≡ q
  quorums_of i lt = sym (seats i lt).stands.quorums ∙ (seats i lt).quorums

  run_legal : h < q.nodes → IsLegal (old h).view.opening run
  run_legal lt = (meetings_look first h old between before).legal (seats h lt).stands.legal

pub heard_rest : HeardRest
heard_rest q h first second old between new lt before all behind again seats = record {
  quorums = quorums_of q h first second old between new before all behind again seats h lt;
  legal = run_legal q h first second old between new before all behind again seats lt;
  opening = λ i low. opening_of q h first second old between new before all behind again seats i low;
  me = λ i low. (seats i low).me;
  stands = λ i low. (seats i low).stands;
  rests = λ i low. rests_of q h first second old between new before all behind again seats i low;
}
