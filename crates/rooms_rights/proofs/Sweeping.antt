-- The looks of a sweep: what each asks of the table, and what they leave of the rights.
use Rattle.std.proofs.Common.{◌≡◌, ◌≢◌, ℕ, ◌+◌, ◌*◌, ◌<◌, ◌≤◌, List, length, set, get_or, length-set, get_or-set_same, refl, sym, ap, ◌∙◌, subst, add-one, arith}
use mathlib.Core.Option.{none}
use Rattle.atomic_table.specs.Seated.{TableId}
use Rattle.atomic_table.specs.Table.{Me, step, Allows}
use Rattle.paxos_core_world.specs.Step.{Label}
use Rattle.rooms_steps.specs.NodeState.{NodeState}
use Rattle.rooms_steps.specs.Steps.{Advances, LooksAtAcceptor, LooksAtProposer, AcceptorLook, ProposerLook}
use Rattle.rooms_steps.specs.Views.{IsSeated}
use Rattle.rooms_steps.specs.Words.{accepted_in, promised_in}
use Rattle.rooms_steps.specs.Opening.{Opening}
use Rattle.rooms_steps.specs.View.{View}
use Rattle.rooms_steps.proofs.HearLemmas.{me_hearing}
use Rattle.rooms_steps.proofs.Looks.{looks_at_acceptor, looks_at_proposer}
use Rattle.rooms_table.specs.Family.{view_in, FamilyRule}
use Rattle.rooms_table.specs.Places.{pair_of, place_of}
use Rattle.rooms_table.specs.RoomAt.{HasWords, RoomAt}
use Rattle.rooms_table.specs.Steps.{StepsInItsRoom}
use Rattle.rooms_table.specs.declared.view.Openings.{Openings}
use Rattle.rooms_table.specs.declared.view.Views.{Views}
use Rattle.rooms_table.proofs.Places.{acceptor_place, proposer_place}
use Rattle.rooms_rights.specs.Rights.{HasRights, Held}
use Rattle.rooms_rights.specs.Sweep.{none_seen, seen_of, with_proposer, Found, LookedAtNode, MayLook, MaySweep, FoundChanged, FoundUnchanged}
use Rattle.rooms_rights.specs.declared.seen.SeenWords.{SeenWords}
use Rattle.rooms_rights.proofs.Openings.{any_default}
use Rattle.rooms_rights.proofs.Stepping.{may_in_table, rights_after, told_alone}

seated_after : (v : View) (steps : List Label) (t : NodeState) (w : View) → Advances v steps t w → t.me ≡ v.node.me → IsSeated v → IsSeated w
seated_after v steps t w a me s =
    subst (λ (z : View). IsSeated z) (sym a.stays) record { live = s.live; first = s.first ∙ sym me; last = s.last ∙ ap (λ (i : ℕ). i + 1) (sym me) }

low_word : (j n : ℕ) → j < n → 2 * j < 2 * n
low_word j n lt = omega arith

high_word : (j n : ℕ) → j < n → 2 * j + 1 < 2 * n
high_word j n lt = omega arith

module _ (board : TableId) (h : Held) (count : ℕ) where
  abbrev at : TableId → RoomAt
  at table = record { table = table; rooms = h.at.rooms; room = h.at.room; number = h.at.number }

  -- what the holder of a token knows of the room
  abbrev seen_by : Me (Unit {0}) Views → View
  seen_by me = view_in me.0 h.at.room

  -- it may look on, after a step that left its node's number
  may_still : (table : TableId) (me : Me (Unit {0}) Views) → MayLook board h count table me → (u : TableId) → u ≡ table → (after : Me (Unit {0}) Views) → HasRights board (at u) after.0
      → (steps : List Label) (t : NodeState) → Advances (seen_by me) steps t (seen_by after) → t.me ≡ (seen_by me).node.me → MayLook board h count u after
  may_still table me may u eu after rights steps t a e =
      let opening : (seen_by after).opening ≡ (seen_by me).opening = ap (λ (v : View). v.opening) a.stays in
      record {
        rights = rights;
        seated = seated_after (seen_by me) steps t (seen_by after) a e may.seated;
        words = subst (λ (x : TableId). HasWords (at x) (seen_by after).opening.quorums.nodes) (sym eu)
            (subst (λ (o : Opening). HasWords (at table) o.quorums.nodes) (sym opening) may.words);
        nodes = ap (λ (o : Opening). o.quorums.nodes) opening ∙ may.nodes;
      }

  module _ (table : TableId) (me : Me (Unit {0}) Views) (may : MayLook board h count table me) (j place : ℕ) (lt : j < count) (stands : place ≡ 2 * pair_of h.at.rooms h.at.room j) where
    below : j < (seen_by me).opening.quorums.nodes
    below = subst (λ (n : ℕ). j < n) (sym may.nodes) lt

    first_place : place ≡ place_of h.at.rooms h.at.room (2 * j)
    first_place = stands ∙ sym (proposer_place h.at.rooms h.at.room j)

    second_place : place + 1 ≡ place_of h.at.rooms h.at.room (2 * j + 1)
    second_place = ap (λ (p : ℕ). p + 1) stands ∙ sym (acceptor_place h.at.rooms h.at.room j)

    -- ---- its proposer's word

    pub may_look_proposer : (id : ℕ) (o : Openings) (t : TableId) → board ≡ t
        → (table ≡ t) × (place < t.words) × Allows (FamilyRule o) t.slots id me place (λ n. n) (λ n. StepsInItsRoom {S = Unit {0}} ProposerLook (step t.slots place 0 0 none) me n)
    may_look_proposer id o t same =
        let both = may_in_table board (at table) id me may.rights (2 * j) place 0 0 ProposerLook first_place (λ n. n) (λ n. n)
        record {
          seated = may.seated;
          words = may.words;
          below = low_word j (seen_by me).opening.quorums.nodes below;
          allowed = λ p. looks_at_proposer {S = Unit {0}} p table.slots id (seen_by me, me.1) (2 * j) may.seated;
        } o t (may.rights.same ∙ same) in
        (may.rights.same ∙ same, both.0, both.1)

    module _ (t : TableId) (same : board ≡ t) (n : ℕ) (after : Me (Unit {0}) Views) (told : StepsInItsRoom {S = Unit {0}} ProposerLook (step t.slots place 0 0 none) me n after) where
      pub looked_proposer : LooksAtProposer j n (seen_by me) (seen_by after)
      looked_proposer = told_alone board (at table) 0 me may.rights (2 * j) place 0 0 ProposerLook first_place t n after (may.rights.same ∙ same) told j refl below

      pub may_after_proposer : (u : TableId) → u ≡ table → MayLook board h count u after
      may_after_proposer u eu =
          may_still table me may u eu after (rights_after board (at table) 0 me may.rights (2 * j) place 0 0 ProposerLook first_place t.slots n after told u eu)
          _ _ looked_proposer.advances refl

    -- ---- its acceptor's

    pub may_look_acceptor : (id : ℕ) (o : Openings) (t : TableId) → board ≡ t
        → (table ≡ t) × (place + 1 < t.words) × Allows (FamilyRule o) t.slots id me (place + 1) (λ n. n) (λ n. StepsInItsRoom {S = Unit {0}} AcceptorLook (step t.slots (place + 1) 0 0 none) me n)
    may_look_acceptor id o t same =
        let both = may_in_table board (at table) id me may.rights (2 * j + 1) (place + 1) 0 0 AcceptorLook second_place (λ n. n) (λ n. n)
        record {
          seated = may.seated;
          words = may.words;
          below = high_word j (seen_by me).opening.quorums.nodes below;
          allowed = λ p. looks_at_acceptor {S = Unit {0}} p table.slots id (seen_by me, me.1) j below may.seated;
        } o t (may.rights.same ∙ same) in
        (may.rights.same ∙ same, both.0, both.1)

    module _ (t : TableId) (same : board ≡ t) (n : ℕ) (after : Me (Unit {0}) Views) (told : StepsInItsRoom {S = Unit {0}} AcceptorLook (step t.slots (place + 1) 0 0 none) me n after) where
      pub looked_acceptor : LooksAtAcceptor j n (seen_by me) (seen_by after)
      looked_acceptor = told_alone board (at table) 0 me may.rights (2 * j + 1) (place + 1) 0 0 AcceptorLook second_place t n after (may.rights.same ∙ same) told j refl below

      pub may_after_acceptor : (u : TableId) → u ≡ table → MayLook board h count u after
      may_after_acceptor u eu =
          may_still table me may u eu after (rights_after board (at table) 0 me may.rights (2 * j + 1) (place + 1) 0 0 AcceptorLook second_place t.slots n after told u eu)
          _ _ looked_acceptor.advances (me_hearing (seen_by me).node j (promised_in n) (accepted_in n))

  -- ---- how far a sweep has come

  -- it has looked at the first j nodes, and may go on
  pub record SoFar (s : List SeenWords) (j : ℕ) (table : TableId) (me : Me (Unit {0}) Views) (t : List SeenWords) : Type 0 where
    pub may : MayLook board h count table me
    pub swept : FoundUnchanged j h.me.0 s (view_in me.0 h.at.room) t
    pub row : length t ≡ 7

  -- one node more
  module _ (s : List SeenWords) (j : ℕ) (table : TableId) (me : Me (Unit {0}) Views) (t : List SeenWords) (so : SoFar s j table me t) (lt : j < count) (place : ℕ) (stands : place ≡ 2 * pair_of h.at.rooms h.at.room j)
      (x : TableId) (same : board ≡ x) (put : SeenWords) (old : SeenWords) (is : put.acceptor ≡ (get_or t j old).acceptor) (n : ℕ) (after : Me (Unit {0}) Views) (found : Found x.slots place me put.proposer n after)
      (u : TableId) (eu : u ≡ table) where
    mid : MayLook board h count table found.between
    mid = may_after_proposer table me so.may j place lt stands x same put.proposer found.between found.first table refl

    pub may_then : MayLook board h count u after
    may_then = may_after_acceptor table found.between mid j place lt stands x same n after found.second u eu

    seven : count ≤ 7
    seven = subst (λ (m : ℕ). m ≤ 7) so.may.nodes so.may.words.most

    room : j < length t
    room = let a : length t ≡ 7 = so.row in let b : count ≤ 7 = seven in omega arith

    put_is : set t j put ≡ with_proposer t j put.proposer
    put_is = ap (λ (y : SeenWords). set t j y) (λ i. record { proposer = put.proposer; acceptor = (is ∙ ap (λ (y : SeenWords). y.acceptor) (any_default t j old none_seen room)) i })

    looked_at : LookedAtNode j n (seen_by me) t (seen_by after) (set t j put)
    looked_at =
        record {
          found = put.proposer;
          between = seen_by found.between;
          proposer = looked_proposer table me so.may j place lt stands x same put.proposer found.between found.first;
          acceptor = looked_acceptor table found.between mid j place lt stands x same n after found.second;
          put = put_is;
        }

    -- what stands there of its acceptor is as it was
    there : (d : SeenWords) → (get_or (set t j put) j d).acceptor ≡ (seen_of t j).acceptor
    there d = ap (λ (y : SeenWords). y.acceptor) (get_or-set_same t j put d room) ∙ (is ∙ ap (λ (y : SeenWords). y.acceptor) (any_default t j old none_seen room))

    pub one_more : (d : SeenWords) → n ≡ (get_or (set t j put) j d).acceptor → SoFar s (j + 1) u after (set t j put)
    one_more d e =
        record {
          may = may_then;
          swept = subst (λ (k : ℕ). FoundUnchanged k h.me.0 s (seen_by after) (set t j put)) (sym (add-one j))
              (seen_by me, t, so.swept, subst (λ (k : ℕ). LookedAtNode j k (seen_by me) t (seen_by after) (set t j put)) (e ∙ there d) looked_at);
          row = length-set t j put ∙ so.row;
        }

    pub stopped : (d : SeenWords) → n ≢ (get_or (set t j put) j d).acceptor → FoundChanged j n count h.me.0 s (seen_by after) (set t j put)
    stopped d away =
        record {
          node = lt;
          before = seen_by me;
          seen = t;
          swept = so.swept;
          looked = looked_at;
          other = λ e. away (e ∙ sym (there d));
        }

-- ---- the token of rights

module _ (board x : TableId) (same : x ≡ board) (g h : Held) (is : g ≡ h) (count : ℕ) where
  -- no node was looked at yet
  pub none_yet : (me : Me (Unit {0}) Views) → HasRights board g.at me.0 → g.me.0 ≡ view_in me.0 g.at.room → (s : List SeenWords) → length s ≡ 7 → MaySweep h count → SoFar x h count s 0 g.at.table me s
  none_yet me rights ev s row may = subst (λ (k : Held). SoFar x k count s 0 g.at.table me s) is (begun (subst (λ (k : Held). MaySweep k count) (sym is) may))
    where
      begun : MaySweep g count → SoFar x g count s 0 g.at.table me s
      begun m =
          record {
            may = record {
              rights = subst (λ (b : TableId). HasRights b g.at me.0) (sym same) rights;
              seated = subst (λ (v : View). IsSeated v) ev m.seated;
              words = subst (λ (v : View). HasWords g.at v.opening.quorums.nodes) ev m.words;
              nodes = ap (λ (v : View). v.opening.quorums.nodes) (sym ev) ∙ m.count;
            };
            swept = (sym ev, refl);
            row = row;
          }

  pub rights_left : (table : TableId) (me : Me (Unit {0}) Views) → MayLook x h count table me → HasRights board record { table = table; rooms = g.at.rooms; room = g.at.room; number = g.at.number } me.0
  rights_left table me may =
      subst (λ (k : Held). HasRights board record { table = table; rooms = k.at.rooms; room = k.at.room; number = k.at.number } me.0) (sym is)
      (subst (λ (b : TableId). HasRights b record { table = table; rooms = h.at.rooms; room = h.at.room; number = h.at.number } me.0) same may.rights)

  -- what was told of the view that it has of the room
  pub told_of : (P : View → Type 0) (me : Me (Unit {0}) Views) → P (view_in me.0 h.at.room) → P (view_in me.0 g.at.room)
  told_of P me p = subst (λ (k : Held). P (view_in me.0 k.at.room)) (sym is) p

-- ---- places

pub first_words : (h : Held) (p : ℕ) → p ≡ h.at.room → 2 * p ≡ 2 * pair_of h.at.rooms h.at.room 0
first_words h p e = omega arith

pub next_words : (h : Held) (j p r : ℕ) → p ≡ 2 * pair_of h.at.rooms h.at.room j → r ≡ h.at.rooms → p + 2 * r ≡ 2 * pair_of h.at.rooms h.at.room (j + 1)
next_words h j p r e er = ap (λ (m : ℕ). p + 2 * m) er ∙ further h.at.rooms h.at.room j p e
  where
    further : (rooms room j p : ℕ) → p ≡ 2 * (j * rooms + room) → p + 2 * rooms ≡ 2 * ((j + 1) * rooms + room)
    further rooms room j p e = omega arith
