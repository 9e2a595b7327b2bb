-- Seats each of which has met one of them twice rest in the run that this one has seen between.
use Rattle.std.proofs.Common.{◌≡◌, ◌≢◌, ℕ, ◌<◌, ◌⊎◌, List, [], ◌∷◌, sym, ap, ◌∙◌, subst, inl, inr}
use Rattle.std.proofs.lemmas.Bool.{cases_eq}
use Rattle.paxos_core_world.specs.Quorum.{Sizes}
use Rattle.paxos_core_world.specs.World.{Has}
use Rattle.paxos_core_node_steps.specs.NodeState.{NodeState}
use Rattle.rooms_words.specs.declared.event.Event.{Event}
use Rattle.rooms_words.specs.Events.{labels_of}
use Rattle.rooms_meeting.specs.SeatState.{SeatState}
use Rattle.rooms_words.specs.Views.{BeginsWith, IsLegal}
use Rattle.rooms_words.proofs.RunLemmas.{begins_through}
use Rattle.rooms_meeting.specs.Met.{HaveMet}
use Rattle.rooms_crash.specs.Meetings.{AllMeet, IsSeatOf, Meetings, Meets, MeetsIn, MeetingsJoin}
use Rattle.rooms_crash.specs.Rest.{Rests, Spare}
use Rattle.rooms_crash.proofs.Looking.{OnlyLooked, first_looked, looked_never, looked_on, second_looked, spare_between}

begins_looked : (s t : SeatState) → OnlyLooked s.view t.view → BeginsWith t.view.seen s.view.seen
begins_looked s t h = (h.behind, h.seen)

one_meeting : (i j k : ℕ) (old new : ℕ → SeatState) → Meets i j old new → OnlyLooked (old k).view (new k).view
one_meeting i j k old new h = at (cases_eq k i) (cases_eq k j)
  where
    at : (k ≡ i) ⊎ (k ≢ i) → (k ≡ j) ⊎ (k ≢ j) → OnlyLooked (old k).view (new k).view
    at (inl e) other =
        subst (λ (x : ℕ). OnlyLooked (old x).view (new x).view) (sym e) (first_looked (old i) (old j) (new i) (new j) h.met)
    at (inr d) (inl e) =
        subst (λ (x : ℕ). OnlyLooked (old x).view (new x).view) (sym e) (second_looked (old i) (old j) (new i) (new j) h.met)
    at (inr d) (inr c) = subst (λ (x : SeatState). OnlyLooked (old k).view x.view) (sym (h.others k d c)) (looked_never (old k).view)

meetings_look : (ps : List (ℕ × ℕ)) (k : ℕ) (old new : ℕ → SeatState) → Meetings ps old new → OnlyLooked (old k).view (new k).view
meetings_look [] k old new h = subst (λ (x : SeatState). OnlyLooked (old k).view x.view) (sym (h k)) (looked_never (old k).view)
meetings_look (p ∷ ps) k old new h =
    looked_on (old k).view (h.0 k).view (new k).view (meetings_look ps k old h.0 h.1) (one_meeting p.0 p.1 k h.0 new h.2)

-- each of two that met has since seen what the other had seen before, and they are of one room
record HaveSeen (a b : ℕ) (old new : ℕ → SeatState) : Type 0 where
  pub first : BeginsWith (new a).view.seen (old b).view.seen
  pub second : BeginsWith (new b).view.seen (old a).view.seen
  pub opening : (old a).view.opening ≡ (old b).view.opening

seen_before : (a b : ℕ) (old between new : ℕ → SeatState) → OnlyLooked (old a).view (between a).view → OnlyLooked (old b).view (between b).view
    → HaveMet (between a) (between b) (new a) (new b) → HaveSeen a b old new
seen_before a b old between new ha hb met = record {
  first = begins_through (new a).view.seen (between b).view.seen (old b).view.seen met.first_other (begins_looked (old b) (between b) hb);
  second = begins_through (new b).view.seen (between a).view.seen (old a).view.seen met.second_other (begins_looked (old a) (between a) ha);
  opening = sym ha.opening ∙ (sym met.first.opening ∙ (met.opening ∙ (met.second.opening ∙ hb.opening)));
}

seen_after : (a b : ℕ) (old between new : ℕ → SeatState) → HaveSeen a b old between → OnlyLooked (between a).view (new a).view → OnlyLooked (between b).view (new b).view
    → HaveSeen a b old new
seen_after a b old between new h ha hb = record {
  first = begins_through (new a).view.seen (between a).view.seen (old b).view.seen (begins_looked (between a) (new a) ha) h.first;
  second = begins_through (new b).view.seen (between b).view.seen (old a).view.seen (begins_looked (between b) (new b) hb) h.second;
  opening = h.opening;
}

pair_seen : (ps : List (ℕ × ℕ)) (a b : ℕ) (old new : ℕ → SeatState) → Has (a, b) ps → Meetings ps old new → HaveSeen a b old new
pair_seen [] a b old new has h = absurd has
pair_seen (p ∷ ps) a b old new (inl e) h =
    let here : Meets a b h.0 new = subst (λ (x : ℕ × ℕ). Meets x.0 x.1 h.0 new) (sym e) h.2 in
    seen_before a b old h.0 new (meetings_look ps a old h.0 h.1) (meetings_look ps b old h.0 h.1) here.met
pair_seen (p ∷ ps) a b old new (inr has) h =
    seen_after a b old h.0 new (pair_seen ps a b old h.0 has h.1) (one_meeting p.0 p.1 a h.0 new h.2) (one_meeting p.0 p.1 b h.0 new h.2)

meeting_seen : (ps : List (ℕ × ℕ)) (h i : ℕ) (old new : ℕ → SeatState) → MeetsIn ps h i → Meetings ps old new → HaveSeen h i old new
meeting_seen ps h i old new (inl has) all = pair_seen ps h i old new has all
meeting_seen ps h i old new (inr has) all =
    let s = pair_seen ps i h old new has all in record { first = s.second; second = s.first; opening = sym s.opening }

module _ (q : Sizes) (h : ℕ) (first second : List (ℕ × ℕ)) (old between new : ℕ → SeatState)
    (before : Meetings first old between) (all : AllMeet first q.nodes h) (behind : Meetings second between new) (again : AllMeet second q.nodes h)
    (seats : (i : ℕ) → i < q.nodes → IsSeatOf q i (old i)) where
  abbrev run : List Event
  run = (between h).view.seen

  opening_of : (i : ℕ) → i < q.nodes → (i ≡ h) ⊎ (i ≢ h) → (old i).view.opening ≡ (old h).view.opening
  opening_of i lt (inl e) = ap (λ k. (old k).view.opening) e
  opening_of i lt (inr d) = sym (meeting_seen first h i old between (all i lt d) before).opening

  own_spare : (i : ℕ) → i < q.nodes → (ls : List Event) → Spare (old i).view.opening.quorums.nodes (old i).view.node.me (labels_of ls)
      → Spare (old i).view.opening.quorums.nodes (old i).node.me (labels_of ls)
  own_spare i lt ls spare =
      subst (λ (m : ℕ). Spare (old i).view.opening.quorums.nodes m (labels_of ls)) (ap (λ (n : NodeState). n.me) (seats i lt).stands.node) spare

  hub_rests : h < q.nodes → Rests run (old h)
  hub_rests lt =
      let look = meetings_look first h old between before in
      record { behind = look.behind; run_is = look.seen; spare = own_spare h lt look.behind look.spare }

  other_rests : (i : ℕ) → i < q.nodes → i ≢ h → Rests run (old i)
  other_rests i lt d =
      let look = looked_on (old i).view (between i).view (new i).view (meetings_look first i old between before) (meetings_look second i between new behind) in
      let from : BeginsWith run (old i).view.seen = (meeting_seen first h i old between (all i lt d) before).first in
      let to : BeginsWith (new i).view.seen run = (meeting_seen second h i between new (again i lt d) behind).second in
      record { behind = from.0; run_is = from.1; spare = own_spare i lt from.0 (spare_between (old i).view (new i).view run look from to) }

  rests_of : (i : ℕ) → i < q.nodes → (i ≡ h) ⊎ (i ≢ h) → Rests run (old i)
  rests_of i lt (inl e) = subst (λ (k : ℕ). Rests run (old k)) (sym e) (hub_rests (subst (λ k. k < q.nodes) e lt))
  rests_of i lt (inr d) = other_rests i lt d

  quorums_of : (i : ℕ) → i < q.nodes → (old i).view.opening.quorums ≡ q
  quorums_of i lt = sym (seats i lt).stands.quorums ∙ (seats i lt).quorums

  run_legal : h < q.nodes → IsLegal (old h).view.opening run
  run_legal lt = (meetings_look first h old between before).legal (seats h lt).stands.legal

pub meetings_join : MeetingsJoin
meetings_join q h first second old between new lt before all behind again seats = record {
  quorums = quorums_of q h first second old between new before all behind again seats h lt;
  legal = run_legal q h first second old between new before all behind again seats lt;
  opening = λ i low. opening_of q h first second old between new before all behind again seats i low (cases_eq i h);
  me = λ i low. (seats i low).me;
  stands = λ i low. (seats i low).stands;
  rests = λ i low. rests_of q h first second old between new before all behind again seats i low (cases_eq i h);
}
