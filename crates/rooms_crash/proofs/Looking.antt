-- A seat that only looks: what it sees are steps of others, and that its node learns.
use Rattle.std.proofs.Common.{◌≡◌, ℕ, zero, suc, Bool, true, false, cond, List, [], ◌∷◌, ◌++◌, append_assoc, Option, Some, None, refl, sym, ap, ◌∙◌, subst, inl, inr}
use Rattle.std.proofs.lemmas.List.{append_cancel_right}
use Rattle.paxos_core_world.specs.KeptPart.{vote}
use Rattle.paxos_core_world.specs.Step.{Label, Learns}
use Rattle.paxos_core_world.specs.declared.vote.Vote.{Vote}
use Rattle.paxos_core_node_steps.specs.Learner.{after_promise}
use Rattle.paxos_core_node_steps.specs.NodeState.{NodeState}
use Rattle.paxos_core_node_steps.specs.Taken.{learns_from}
use Rattle.rooms_words.specs.declared.event.Event.{Event}
use Rattle.rooms_words.specs.Events.{labels_of, events_of}
use Rattle.rooms_words.specs.Heard.{after_hearing, taken_by_hearing, taken_on_vote}
use Rattle.rooms_words.specs.declared.view.Opening.{Opening}
use Rattle.rooms_meeting.specs.SeatState.{SeatState}
use Rattle.rooms_words.specs.Steps.{Advances}
use Rattle.rooms_words.specs.declared.view.View.{View}
use Rattle.rooms_words.specs.Views.{AreStepsOfOthers, BeginsWith, IsLegal}
use Rattle.rooms_meeting.proofs.HearLemmas.{me_hearing}
use Rattle.rooms_words.proofs.RunLemmas.{labels_of-append, labels_of-events}
use Rattle.rooms_meeting.specs.Met.{told_by, HaveMet, LookedAtBoth, LookedAtFirst}
use Rattle.rooms_crash.specs.Rest.{Spare}

pub spare_both : (n i : ℕ) (xs ys : List Label) → Spare n i xs → Spare n i ys → Spare n i (xs ++ ys)
spare_both n i [] ys h k = k
spare_both n i (x ∷ xs) ys h k = (h.0, spare_both n i xs ys h.1 k)

pub spare_older : (n i : ℕ) (xs ys : List Label) → Spare n i (xs ++ ys) → Spare n i ys
spare_older n i [] ys h = h
spare_older n i (x ∷ xs) ys h = spare_older n i xs ys h.1

others_spare : (n i : ℕ) (ls : List Label) → AreStepsOfOthers n i ls → Spare n i ls
others_spare n i [] h = tt
others_spare n i (l ∷ ls) h = (inl h.0, others_spare n i ls h.1)

learning_spares : (n i : ℕ) (t : Bool) (m v : ℕ) → Spare n i (cond t (Learns m v ∷ []) [])
learning_spares n i true m v = (inr tt, tt)
learning_spares n i false m v = tt

vote_spares : (n i : ℕ) (s : NodeState) (j : ℕ) (x : Option Vote) → Spare n i (taken_on_vote s j x)
vote_spares n i s j None = tt
vote_spares n i s j (Some x) = learning_spares n i (learns_from s j (vote x.ballot x.value)) s.me x.value

hearing_spares : (n i : ℕ) (s : NodeState) (j p : ℕ) (x : Option Vote) → Spare n i (taken_by_hearing s j p x)
hearing_spares n i s j p x = vote_spares n i (after_promise s j p x) j x

-- of one view and a later one of the same seat
pub record OnlyLooked (v w : View) : Type 0 where
  pub behind : List Event
  pub seen : w.seen ≡ behind ++ v.seen
  pub spare : Spare v.opening.quorums.nodes v.node.me (labels_of behind)
  pub me : w.node.me ≡ v.node.me
  pub opening : w.opening ≡ v.opening
  pub legal : IsLegal v.opening v.seen → IsLegal v.opening w.seen

pub looked_never : (v : View) → OnlyLooked v v
looked_never v = record { behind = []; seen = refl; spare = tt; me = refl; opening = refl; legal = λ l. l }

pub looked_on : (u v w : View) → OnlyLooked u v → OnlyLooked v w → OnlyLooked u w
looked_on u v w h k = record {
  behind = k.behind ++ h.behind;
  seen = k.seen ∙ (ap (λ (x : List Event). k.behind ++ x) h.seen ∙ sym (append_assoc k.behind h.behind u.seen));
  spare =
      subst (λ (ls : List Label). Spare u.opening.quorums.nodes u.node.me ls) (sym (labels_of-append k.behind h.behind))
      (spare_both u.opening.quorums.nodes u.node.me (labels_of k.behind) (labels_of h.behind) later h.spare);
  me = k.me ∙ h.me;
  opening = k.opening ∙ h.opening;
  legal = λ l.
      subst (λ (o : Opening). IsLegal o w.seen) h.opening
      (k.legal (subst (λ (o : Opening). IsLegal o v.seen) (sym h.opening) (h.legal l)));
}
  where
    later : Spare u.opening.quorums.nodes u.node.me (labels_of k.behind)
    later =
        subst (λ (o : Opening). Spare o.quorums.nodes u.node.me (labels_of k.behind)) h.opening
        (subst (λ (i : ℕ). Spare v.opening.quorums.nodes i (labels_of k.behind)) h.me k.spare)

-- a look
looked_once : (v : View) (steps : List Label) (t : NodeState) (w : View) → Advances v steps t w → t.me ≡ v.node.me
    → Spare v.opening.quorums.nodes v.node.me steps → OnlyLooked v w
looked_once v steps t w a me spare = record {
  behind = events_of steps ++ a.between;
  seen = a.seen ∙ sym (append_assoc (events_of steps) a.between v.seen);
  spare =
      subst (λ (ls : List Label). Spare v.opening.quorums.nodes v.node.me ls) (sym (labels_of-events steps a.between))
      (spare_both v.opening.quorums.nodes v.node.me steps (labels_of a.between) spare
      (others_spare v.opening.quorums.nodes v.node.me (labels_of a.between) a.others));
  me = ap (λ (x : View). x.node.me) a.stays ∙ me;
  opening = ap (λ (x : View). x.opening) a.stays;
  legal = λ l. a.legal;
}

looked_both : (j : ℕ) (old new : SeatState) → LookedAtBoth j old new → OnlyLooked old.view new.view
looked_both j old new h =
    looked_on old.view h.between.view new.view
    (looked_once old.view [] old.view.node h.between.view h.first.advances refl tt)
    (looked_once h.between.view
    (taken_by_hearing h.between.view.node j h.acceptor.promised h.acceptor.accepted)
    (after_hearing h.between.view.node j h.acceptor.promised h.acceptor.accepted) new.view h.second.advances
    (me_hearing h.between.view.node j h.acceptor.promised h.acceptor.accepted)
    (hearing_spares h.between.view.opening.quorums.nodes h.between.view.node.me h.between.view.node j h.acceptor.promised h.acceptor.accepted))

looked_first : (k : ℕ) (old new : SeatState) → LookedAtFirst k old new → OnlyLooked old.view new.view
looked_first zero old new e = subst (λ (z : SeatState). OnlyLooked old.view z.view) (sym e) (looked_never old.view)
looked_first (suc k) old new (m, h, both) = looked_on old.view m.view new.view (looked_first k old m h) (looked_both k m new both)

looked_told : (a b c : SeatState) → OnlyLooked (told_by b a).view c.view → OnlyLooked a.view c.view
looked_told a b c h = record { behind = h.behind; seen = h.seen; spare = h.spare; me = h.me; opening = h.opening; legal = h.legal }

-- two seats that met have looked
pub first_looked : (a b a' b' : SeatState) → HaveMet a b a' b' → OnlyLooked a.view a'.view
first_looked a b a' b' h = looked_told a b' a' (looked_first a.node.quorums.nodes (told_by b' a) a' h.first_looked)

pub second_looked : (a b a' b' : SeatState) → HaveMet a b a' b' → OnlyLooked b.view b'.view
second_looked a b a' b' h = looked_told b a b' (looked_first b.node.quorums.nodes (told_by a b) b' h.second_looked)

-- up to a run between the two
pub spare_between : (v w : View) (run : List Event) → OnlyLooked v w → (first : BeginsWith run v.seen) → BeginsWith w.seen run
    → Spare v.opening.quorums.nodes v.node.me (labels_of first.0)
spare_between v w run h first last =
    spare_older v.opening.quorums.nodes v.node.me (labels_of last.0) (labels_of first.0)
    (subst (λ (ls : List Label). Spare v.opening.quorums.nodes v.node.me ls) (ap (λ (r : List Event). labels_of r) whole ∙ labels_of-append last.0 first.0) h.spare)
  where
    ends : h.behind ++ v.seen ≡ (last.0 ++ first.0) ++ v.seen
    ends = sym h.seen ∙ (last.1 ∙ (ap (λ (x : List Event). last.0 ++ x) first.1 ∙ sym (append_assoc last.0 first.0 v.seen)))

    whole : h.behind ≡ last.0 ++ first.0
    whole = append_cancel_right h.behind (last.0 ++ first.0) v.seen ends
