-- Three seats that have met have learned one value in one run.
use Rattle.std.proofs.Common.{◌≡◌, ℕ, List, Option, Some, None, IfSome, refl, sym, ap, ◌∙◌, subst}
use Rattle.paxos_core_world.specs.World.{World, Has}
use Rattle.paxos_core_node_steps.proofs.WorldLemmas.{grows_by}
use Rattle.rooms_words.specs.declared.event.Event.{Event}
use Rattle.rooms_words.specs.declared.view.Opening.{Opening}
use Rattle.rooms_words.specs.Events.{labels_of}
use Rattle.rooms_words.specs.Views.{world_after, BeginsWith, IsLegal}
use Rattle.rooms_words.proofs.RunLemmas.{world_after-append, begins_through}
use Rattle.rooms_seat.specs.Meeting.{meeting_of, HaveMet, IsKnown}
use Rattle.rooms_seat.specs.declared.meeting.Meeting.{Meeting}
use Rattle.rooms_seat.specs.declared.meeting.Meeting.TheVariants.{Neither, One, Same}
use Rattle.rooms_seat_state.specs.SeatState.{SeatState}
use Rattle.cfarm_settle_nodes.specs.Goes.{empty_room}
use Rattle.cfarm_settle_nodes.specs.Learned.{AreSame, IsLearnedByAll}

-- what was learned in a run stays learned in each run that begins with it
pub learned_on : (o : Opening) (run first : List Event) (i v : ℕ) → BeginsWith run first → Has (i, v) (world_after o first).learned → Has (i, v) (world_after o run).learned
learned_on o run first i v begins has =
    subst (λ (x : World). Has (i, v) x.learned) (sym (ap (λ (r : List Event). world_after o r) begins.1 ∙ world_after-append o begins.0 first))
    ((grows_by (world_after o first) (labels_of begins.0)).learned (i, v) has)

-- a meeting that tells one value: both have learned it
pub both_learned : (x y : Option ℕ) (v : ℕ) → ((a b : ℕ) → x ≡ Some a → y ≡ Some b → a ≡ b) → meeting_of x y ≡ Same v → (x ≡ Some v) × (y ≡ Some v)
both_learned None None v same e = absurd (cc)
both_learned (Some a) None v same e = absurd (cc)
both_learned None (Some b) v same e = absurd (cc)
both_learned (Some a) (Some b) v same e =
    let is : Some a ≡ Some v = ap (λ (m : Meeting). told m) e in
    (is, ap (λ (n : ℕ). Some n) (sym (same a b refl refl)) ∙ is)
  where
    told : Meeting → Option ℕ
    told Neither = None
    told One = None
    told (Same n) = Some n

-- a first met b, and then c: a's run at the end shows what all three have learned
pub all_learned : (a b c a' b' a'' c' : SeatState) (v : ℕ) → a.view.opening ≡ empty_room → a.node.me ≡ 0 → b.node.me ≡ 1 → c.node.me ≡ 2 → HaveMet a b a' b' → HaveMet a' c a'' c' → IsKnown b' → IsKnown a'' → IsKnown c' → b'.node.learned ≡ Some v → a''.node.learned ≡ Some v → c'.node.learned ≡ Some v → IsLearnedByAll a''.view.seen v
all_learned a b c a' b' a'' c' v opening me0 me1 me2 one two kb ka kc lb la lc =
    let o = empty_room in
    let oa' : a'.view.opening ≡ o = one.first.opening ∙ opening in
    let oa : a''.view.opening ≡ o = two.first.opening ∙ oa' in
    let ob : b'.view.opening ≡ o = sym one.opening ∙ oa' in
    let oc : c'.view.opening ≡ o = sym two.opening ∙ oa in
    let ia : a''.node.me ≡ 0 = two.first.me ∙ one.first.me ∙ me0 in
    let ib : b'.node.me ≡ 1 = one.second.me ∙ me1 in
    let ic : c'.node.me ≡ 2 = two.second.me ∙ me2 in
    let run = a''.view.seen in
    record {
      legal = subst (λ (x : Opening). IsLegal x run) oa ka.legal;
      first = subst (λ (i : ℕ). Has (i, v) (world_after o run).learned) ia (subst (λ (x : Opening). Has (a''.node.me, v) (world_after x run).learned) oa (ka.learned v la));
      second = learned_on o run b'.view.seen 1 v (begins_through run a'.view.seen b'.view.seen two.first_own one.one_run)
          (subst (λ (i : ℕ). Has (i, v) (world_after o b'.view.seen).learned) ib (subst (λ (x : Opening). Has (b'.node.me, v) (world_after x b'.view.seen).learned) ob (kb.learned v lb)));
      third = learned_on o run c'.view.seen 2 v two.one_run
          (subst (λ (i : ℕ). Has (i, v) (world_after o c'.view.seen).learned) ic (subst (λ (x : Opening). Has (c'.node.me, v) (world_after x c'.view.seen).learned) oc (kc.learned v lc)));
    }

-- what three meetings told alike is learned
pub learned_alike : (run : List Event) (r : Option ℕ) (x y z : Meeting) → ((v : ℕ) → AreSame x y z v → IsLearnedByAll run v) → IfSome r (λ v. AreSame x y z v) → IfSome r (λ v. IsLearnedByAll run v)
learned_alike run None x y z f h = tt
learned_alike run (Some v) x y z f h = f v h
