-- Two seats of one room that have told each other what they have seen have learned one value.
use Rattle.std.proofs.Common.{◌≡◌, ℕ, List, Some, refl, sym, ap, ◌∙◌, subst}
use Rattle.paxos_core_world.specs.Quorum.{AreQuorums}
use Rattle.paxos_core_world.specs.World.{World, Has, nodes_of}
use Rattle.rooms_seat_state.proofs.Theorem.{runs_learn_one}
use Rattle.rooms_seat_state.proofs.WorldLemmas.{grows_by}
use Rattle.rooms_words.specs.declared.event.Event.{Event}
use Rattle.rooms_words.specs.declared.view.Opening.{Opening}
use Rattle.rooms_words.specs.declared.view.View.{View}
use Rattle.rooms_words.specs.Deal.{informed}
use Rattle.rooms_words.specs.Events.{labels_of}
use Rattle.rooms_words.specs.Views.{world_after}
use Rattle.rooms_words.proofs.RunLemmas.{world_after-append, begins_through}
use Rattle.rooms_meeting.specs.Met.{told_by, HaveMet, IsKnown, LookedAtAll, LookedOn, Remains}
use Rattle.rooms_meeting.proofs.Looked.{on_first, seen_no_less}
use Rattle.rooms_meeting.proofs.Openings.{some_node}
use Rattle.rooms_seat_state.specs.SeatState.{SeatState}
use Rattle.rooms_seat_state.specs.Sound.{IsSound}

-- ---- telling

pub informed_sound : (s : SeatState) (w : View) → IsSound s → IsSound (record s { view = informed s.view w })
informed_sound s w h =
    record {
      words = h.words;
      quorums = h.quorums;
      most = h.most;
      proposer_row = h.proposer_row;
      acceptor_row = h.acceptor_row;
      seated = record { live = h.seated.live; first = h.seated.first; last = h.seated.last };
      node = h.node;
      legal = h.legal;
      belongs = h.belongs;
      own_word = h.own_word;
      own = h.own;
      proposed = h.proposed;
      proposers = h.proposers;
      acceptors = h.acceptors;
      owned = h.owned;
    }

-- ---- meeting

remains : (other a a' : SeatState) → LookedOn (told_by other a) a' → Remains a a'
remains other a a' k =
    record { opening = k.opening; table = k.table; me = k.me; quorums = k.quorums; kept = k.kept; ballot = k.ballot; under_it = k.under_it; proposed = k.proposed; learned = k.learned }

pub have_met : (a b b1 b2 a1 a2 : SeatState) → IsSound a → IsSound b → AreQuorums a.node.quorums → AreQuorums b.node.quorums
    → b1 ≡ told_by a b → LookedAtAll b1 b2 → a1 ≡ told_by b2 a → LookedAtAll a1 a2 → HaveMet a b a2 b2
have_met a b b1 b2 a1 a2 sa sb qa qb eb lb ea la =
    let hb : LookedAtAll (told_by a b) b2 = subst (λ (s : SeatState). LookedAtAll s b2) eb lb in
    let ha : LookedAtAll (told_by b2 a) a2 = subst (λ (s : SeatState). LookedAtAll s a2) ea la in
    let kb : LookedOn (told_by a b) b2 = on_first b.node.quorums.nodes (told_by a b) b2 (some_node b.node.quorums qb) hb in
    let ka : LookedOn (told_by b2 a) a2 = on_first a.node.quorums.nodes (told_by b2 a) a2 (some_node a.node.quorums qa) ha in
    let ab : a.view.opening ≡ b.view.opening = kb.told_by in
    let first = informed_sound a b2.view sa in
    let second = informed_sound b a.view sb in
    record {
      second_looked = hb;
      first_looked = ha;
      first_sights = (
        seen_no_less a (told_by b2 a) sa first refl (λ m k. k.seen) a2 ha,
        seen_no_less b (told_by b2 a) sb first (sym ab) (λ m k. begins_through m.view.seen b2.view.seen b.view.seen k.told kb.seen) a2 ha,
      );
      second_sights = (
        seen_no_less b (told_by a b) sb second refl (λ m k. k.seen) b2 hb,
        seen_no_less a (told_by a b) sa second ab (λ m k. k.told) b2 hb,
      );
      opening = ka.opening ∙ sym ka.told_by;
      first_own = ka.seen;
      first_other = begins_through a2.view.seen b2.view.seen b.view.seen ka.told kb.seen;
      second_own = kb.seen;
      second_other = kb.told;
      one_run = ka.told;
      first = remains b2 a a2 ka;
      second = remains a b b2 kb;
    }

pub met_agree : (a b a' b' : SeatState) → HaveMet a b a' b' → IsKnown a' → IsKnown b' → (v u : ℕ) → a'.node.learned ≡ Some v → b'.node.learned ≡ Some u → v ≡ u
met_agree a b a' b' met ka kb v u ev eu =
    runs_learn_one a'.view.opening.quorums (nodes_of a'.view.opening.kept) (labels_of a'.view.seen) ka.legal a'.node.me b'.node.me v u (ka.learned v ev)
    (subst (λ (x : World). Has (b'.node.me, u) x.learned) (sym (ap (λ (r : List Event). world_after a'.view.opening r) met.one_run.1 ∙ world_after-append a'.view.opening met.one_run.0 b'.view.seen))
    ((grows_by (world_after a'.view.opening b'.view.seen) (labels_of met.one_run.0)).learned (b'.node.me, u)
    (subst (λ (o : Opening). Has (b'.node.me, u) (world_after o b'.view.seen).learned) (sym met.opening) (kb.learned u eu))))
