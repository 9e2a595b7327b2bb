-- What a step in a room asks of the table, and what it leaves of the rights.
use Rattle.std.proofs.Common.{◌≡◌, ℕ, ◌*◌, ◌<◌, ◌⊎◌, Bool, true, false, [], if◌then◌else◌, refl, sym, ap, ◌∙◌, subst, inl, inr, arith}
use mathlib.Core.Option.{none}
use native.Mathlib.Decide.{ℕ_discrete}
use Rattle.atomic_table.specs.Seated.{TableId}
use Rattle.atomic_table.specs.Table.{Me, Step, step, Allows, Splits, Joins}
use Rattle.rooms_steps.specs.Deal.{dealing, dealing_rest, dealing_seat, informed, nobody, witness}
use Rattle.rooms_steps.specs.View.{View}
use Rattle.rooms_table.specs.Deal.{all_informed, first_node, nowhere, other_nodes, rest_of, seat_of, witnesses}
use Rattle.rooms_table.specs.Family.{rooms_in, view_in, FamilyRule}
use Rattle.rooms_table.specs.Places.{place_of}
use Rattle.rooms_table.specs.RoomAt.{RoomAt}
use Rattle.rooms_table.specs.Steps.{StepsInItsRoom, StepsInRoom}
use Rattle.rooms_table.specs.declared.view.Openings.{Openings}
use Rattle.rooms_table.specs.declared.view.Views.{Views}
use Rattle.rooms_table.proofs.Dealing.{deals_nodes, hears, informed_in, rooms_informed, tells, witness_in}
use Rattle.rooms_table.proofs.Lifting.{plays}
use Rattle.rooms_table.proofs.Places.{place_below}
use Rattle.rooms_table.proofs.Tables.{get_or-map, length-map}
use Rattle.rooms_rights.specs.Rights.{Held, HasRights, MayDeal, MayStep}

module _ (board : TableId) (at : RoomAt) (id : ℕ) (me : Me (Unit {0}) Views) (rights : HasRights board at me.0) where
  is_room : at.room < rooms_in me.0
  is_room = subst (λ (n : ℕ). at.room < n) (sym rights.rooms) rights.number

  pub some_room : 0 < rooms_in me.0
  some_room = let lt : at.room < rooms_in me.0 = is_room in omega arith

  abbrev pub held : Held
  held = record { at = at; id = id; me = (view_in me.0 at.room, me.1) }

  -- ---- a step

  module _ (word place first second : ℕ) (T : Step (Unit {0}) → Me (Unit {0}) View → ℕ → Me (Unit {0}) View → Type 0) (stands : place ≡ place_of at.rooms at.room word) where
    place_is : place_of (rooms_in me.0) at.room word ≡ place
    place_is = ap (λ (n : ℕ). place_of n at.room word) rights.rooms ∙ sym stands

    pub may_in_table : (f number : ℕ → ℕ)
        → MayStep record { at = at; id = id; me = (view_in me.0 at.room, me.1) } word f (λ n. T (step at.table.slots word first second none) (view_in me.0 at.room, me.1) (number n))
        → (o : Openings) (t : TableId) → at.table ≡ t
        → (place < t.words) × Allows (FamilyRule o) t.slots id me place f (λ n. StepsInItsRoom T (step t.slots place first second none) me (number n))
    may_in_table f number may o t same =
        subst (λ (u : TableId). (place < u.words) × Allows (FamilyRule o) u.slots id me place f (λ n. StepsInItsRoom T (step u.slots place first second none) me (number n))) same (
          subst (λ (n : ℕ). place < n) (sym may.words.words)
              (subst (λ (p : ℕ). p < 2 * ((view_in me.0 at.room).opening.quorums.nodes * at.rooms)) (sym stands) (place_below at.rooms at.room (view_in me.0 at.room).opening.quorums.nodes word rights.number may.below)),
          subst (λ (p : ℕ). Allows (FamilyRule o) at.table.slots id me p f (λ n. StepsInItsRoom T (step at.table.slots p first second none) me (number n))) place_is
              (plays o at.table.slots id me at.room word f number first second none T is_room may.below may.seated may.allowed),
        )

    told_here : (slots n : ℕ) (after : Me (Unit {0}) Views) → StepsInItsRoom T (step slots place first second none) me n after → StepsInRoom T at.room word (step slots place first second none) me n after
    told_here slots n after told = told at.room word (sym place_is) is_room

    -- it is told as if the room were alone
    pub told_alone : (t : TableId) (n : ℕ) (after : Me (Unit {0}) Views) → at.table ≡ t → StepsInItsRoom T (step t.slots place first second none) me n after
        → T (step at.table.slots word first second none) (view_in me.0 at.room, me.1) n (view_in after.0 at.room, after.1)
    told_alone t n after same told =
        subst (λ (u : TableId). T (step u.slots word first second none) (view_in me.0 at.room, me.1) n (view_in after.0 at.room, after.1)) (sym same) (told_here t.slots n after told).there

    pub rights_after : (slots n : ℕ) (after : Me (Unit {0}) Views) → StepsInItsRoom T (step slots place first second none) me n after → (u : TableId) → u ≡ at.table
        → HasRights board record { table = u; rooms = at.rooms; room = at.room; number = at.number } after.0
    rights_after slots n after told u is =
        let here = told_here slots n after told in
        record {
          same = is ∙ rights.same;
          number = rights.number;
          rooms = here.rooms ∙ rights.rooms;
          quiet = λ other lt away. subst (λ (v : View). v.live ≡ false) (sym (here.others other away)) (rights.quiet other lt away);
        }

  -- ---- dealing

  module _ (k : ℕ) (may : MayDeal record { at = at; id = id; me = (view_in me.0 at.room, me.1) } k) where
    pub deals_here : (o : Openings) → Splits {S = Unit {0}} (FamilyRule o) id me.0 (other_nodes me.0) (first_node me.0)
    deals_here o = deals_nodes {S = Unit {0}} o id me.0 some_room k (λ r lt. by r (subst (λ (n : ℕ). r < n) rights.rooms lt) (ℕ_discrete r at.room))
      where
        by : (r : ℕ) → r < at.rooms → Dec (r ≡ at.room)
            → ((view_in me.0 r).live ≡ false) ⊎ ((view_in me.0 r ≡ dealing (view_in me.0 r).opening k) × (k < (view_in me.0 r).opening.quorums.nodes))
        by r lt (yes e) = inr (subst (λ (i : ℕ). (view_in me.0 i ≡ dealing (view_in me.0 i).opening k) × (k < (view_in me.0 i).opening.quorums.nodes)) (sym e) (may.view, may.next))
        by r lt (no d) = inl (rights.quiet r lt d)

    live_here : (view_in me.0 at.room).live ≡ true
    live_here = ap (λ (v : View). v.live) may.view

    pub seat_here : view_in (first_node me.0) at.room ≡ dealing_seat (view_in me.0 at.room)
    seat_here =
        get_or-map seat_of me.0.rooms at.room nobody nobody is_room
        ∙ ap (λ (t : Bool). if t then dealing_seat (view_in me.0 at.room) else nobody) live_here

    pub rest_here : view_in (other_nodes me.0) at.room ≡ dealing_rest (view_in me.0 at.room)
    rest_here =
        get_or-map rest_of me.0.rooms at.room nobody nobody is_room
        ∙ ap (λ (t : Bool). if t then dealing_rest (view_in me.0 at.room) else view_in me.0 at.room) live_here

    rest_live : (x : View) (t : Bool) → t ≡ false → (if t then dealing_rest x else x).live ≡ x.live
    rest_live x true e = absurd (cc)
    rest_live x false e = refl

    seat_live : (x : View) (t : Bool) → t ≡ false → (if t then dealing_seat x else nobody).live ≡ false
    seat_live x true e = absurd (cc)
    seat_live x false e = refl

    pub rights_of_seat : (u : TableId) → u ≡ at.table → HasRights board record { table = u; rooms = at.rooms; room = at.room; number = at.number } (first_node me.0)
    rights_of_seat u is =
        record {
          same = is ∙ rights.same;
          number = rights.number;
          rooms = length-map seat_of me.0.rooms ∙ rights.rooms;
          quiet = λ other lt away.
              ap (λ (v : View). v.live) (get_or-map seat_of me.0.rooms other nobody nobody (subst (λ (n : ℕ). other < n) (sym rights.rooms) lt))
              ∙ seat_live (view_in me.0 other) (view_in me.0 other).live (rights.quiet other lt away);
        }

    pub rights_of_rest : (u : TableId) → u ≡ at.table → HasRights board record { table = u; rooms = at.rooms; room = at.room; number = at.number } (other_nodes me.0)
    rights_of_rest u is =
        record {
          same = is ∙ rights.same;
          number = rights.number;
          rooms = length-map rest_of me.0.rooms ∙ rights.rooms;
          quiet = λ other lt away.
              ap (λ (v : View). v.live) (get_or-map rest_of me.0.rooms other nobody nobody (subst (λ (n : ℕ). other < n) (sym rights.rooms) lt))
              ∙ (rest_live (view_in me.0 other) (view_in me.0 other).live (rights.quiet other lt away) ∙ rights.quiet other lt away);
        }

    pub some_word : 0 < at.table.words
    some_word =
        let count : k < (view_in me.0 at.room).opening.quorums.nodes = may.next in
        subst (λ (n : ℕ). 0 < n) (sym may.words.words)
        (above (place_of at.rooms at.room 0) (2 * ((view_in me.0 at.room).opening.quorums.nodes * at.rooms))
        (place_below at.rooms at.room (view_in me.0 at.room).opening.quorums.nodes 0 rights.number (first_word (view_in me.0 at.room).opening.quorums.nodes k count)))
      where
        first_word : (n k : ℕ) → k < n → 0 < 2 * n
        first_word n k lt = omega arith

        above : (x y : ℕ) → x < y → 0 < y
        above x y lt = omega arith

  -- ---- hearing

  pub tells_here : (o : Openings) → Splits {S = Unit {0}} (FamilyRule o) id me.0 me.0 (witnesses me.0)
  tells_here o = tells {S = Unit {0}} o id me.0 some_room

  pub witness_here : view_in (witnesses me.0) at.room ≡ witness (view_in me.0 at.room)
  witness_here = witness_in me.0 at.room is_room

  pub hears_here : (o : Openings) (other : ℕ) (w : Views) → Joins {S = Unit {0}} (FamilyRule o) id me.0 other w (all_informed me.0 w) nowhere
  hears_here o other w = hears {S = Unit {0}} o id me.0 other w some_room

  pub informed_here : (w : Views) → (view_in w at.room).live ≡ true → view_in (all_informed me.0 w) at.room ≡ informed (view_in me.0 at.room) (view_in w at.room)
  informed_here w lives =
      informed_in me.0 w at.room is_room ∙ ap (λ (t : Bool). if t then informed (view_in me.0 at.room) (view_in w at.room) else view_in me.0 at.room) lives

  informed_live : (v w : View) (t : Bool) → (if t then informed v w else v).live ≡ v.live
  informed_live v w true = refl
  informed_live v w false = refl

  pub rights_informed : (w : Views) (u : TableId) → u ≡ at.table → HasRights board record { table = u; rooms = at.rooms; room = at.room; number = at.number } (all_informed me.0 w)
  rights_informed w u is =
      record {
        same = is ∙ rights.same;
        number = rights.number;
        rooms = rooms_informed me.0 w ∙ rights.rooms;
        quiet = λ other lt away.
            ap (λ (v : View). v.live) (informed_in me.0 w other (subst (λ (n : ℕ). other < n) (sym rights.rooms) lt))
            ∙ (informed_live (view_in me.0 other) (view_in w other) (view_in w other).live ∙ rights.quiet other lt away);
      }

-- what was heard of the holder of other rights in the room
pub heard : (board : TableId) (at : RoomAt) (id : ℕ) (me : Me (Unit {0}) Views) (rights : HasRights board at me.0)
    → (board2 : TableId) (at2 : RoomAt) (id2 : ℕ) (me2 : Me (Unit {0}) Views) (rights2 : HasRights board2 at2 me2.0)
    → at ≡ at2 → (view_in me2.0 at2.room).live ≡ true → (w : Me (Unit {0}) Views) → w ≡ (witnesses me2.0, [])
    → (new : Me (Unit {0}) Views) → new ≡ (all_informed me.0 w.0, me.1) → (u : TableId) → u ≡ at.table → (i : ℕ) → i ≡ id
    → ◌≡◌ {A = Held} record { at = record { table = u; rooms = at.rooms; room = at.room; number = at.number }; id = i; me = (view_in new.0 at.room, new.1) }
    record { at = at; id = id; me = (informed (view_in me.0 at.room) (view_in me2.0 at2.room), me.1) }
heard board at id me rights board2 at2 id2 me2 rights2 same lives w ew new en u eu i ei =
    let seen : view_in w.0 at.room ≡ witness (view_in me2.0 at2.room) =
    ap (λ (m : Me (Unit {0}) Views). view_in m.0 at.room) ew ∙ (ap (λ (a : RoomAt). view_in (witnesses me2.0) a.room) same ∙ witness_here board2 at2 id2 me2 rights2) in
    let views : view_in new.0 at.room ≡ informed (view_in me.0 at.room) (view_in me2.0 at2.room) =
    ap (λ (m : Me (Unit {0}) Views). view_in m.0 at.room) en
    ∙ (informed_here board at id me rights w.0 (ap (λ (v : View). v.live) seen ∙ lives) ∙ ap (λ (v : View). informed (view_in me.0 at.room) v) seen) in
    λ k. record {
      at = record { table = eu k; rooms = at.rooms; room = at.room; number = at.number };
      id = ei k;
      me = (views k, ap (λ (m : Me (Unit {0}) Views). m.1) en k);
    }
