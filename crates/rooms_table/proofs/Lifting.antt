-- What a step of one room owes is what it owes in the table: the others stay as they are.
use Rattle.std.proofs.Common.{◌≡◌, ◌≢◌, ℕ, ◌*◌, ◌<◌, List, [], ◌∷◌, ◌++◌, map, length, set, get_or, length-set, get_or-set_same, get_or-set_other, refl, sym, ap, ◌∙◌, subst, inl, inr, arith}
use native.Mathlib.Decide.{ℕ_discrete}
use mathlib.Core.Option.{Option, some}
use lib.ListN.{get_elem?}
use Rattle.atomic_table.specs.Table.{State, Me, Act, Step, step, Valid, stepped, Allows, Splits, Joins, carried_after}
use Rattle.atomic_table.proofs.Lists.{at_map, at_set, at_snoc, set_again}
use Rattle.rooms_words.specs.declared.view.Opening.{Opening}
use Rattle.rooms_words.specs.declared.view.View.{View}
use Rattle.rooms_words.specs.Deal.{nobody}
use Rattle.rooms_words.specs.Rule.{AreApart, RoomRule}
use Rattle.rooms_words.specs.Views.{world_after, IsSeated}
use Rattle.rooms_words.specs.WordsOf.{ShowsWorld}
use Rattle.rooms_table.specs.Deal.{nowhere}
use Rattle.rooms_table.specs.Family.{count_of, opening_in, room_in, rooms_in, view_in, words_in, FamilyRule}
use Rattle.rooms_table.specs.Places.{place_of}
use Rattle.rooms_table.specs.Steps.{views_with, StepsInItsRoom, StepsInRoom}
use Rattle.rooms_table.specs.declared.view.Openings.{Openings}
use Rattle.rooms_table.specs.declared.view.Views.{Views}
use Rattle.rooms_table.proofs.Places.{place_below, same_place}
use Rattle.rooms_table.proofs.Tables.{at_tabulated, map-last, map-set, set-tabulated, tabulated_same}

-- a room's rule speaks of its words and views alone
pub rule_of : {S : Type 0} (o : Opening) (s t : State S View) → t.words ≡ s.words → t.views ≡ s.views → RoomRule o s → RoomRule o t
rule_of o s t ew ev h =
    record {
      run = h.run;
      legal = h.legal;
      words = subst (λ (ws : List ℕ). ShowsWorld o.quorums.nodes (world_after o h.run) ws) (sym ew) h.words;
      views = λ j v e. h.views j v (subst (λ (vs : List View). get_elem? vs j ≡ some v) ev e);
      apart = subst (λ (vs : List View). AreApart vs) (sym ev) h.apart;
    }

-- ---- a step

-- the words of the rooms once one of them is stored
module _ (rooms room count : ℕ) (words : List ℕ) (k x : ℕ) (lt : room < rooms) (low : k < 2 * count) (there : place_of rooms room k < length words) where
  stored : words_in rooms room count (set words (place_of rooms room k) x) ≡ set (words_in rooms room count words) k x
  stored =
      set-tabulated (2 * count) (λ j. get_or words (place_of rooms room j) 0) (λ j. get_or (set words (place_of rooms room k) x) (place_of rooms room j) 0) k x low
      (get_or-set_same words (place_of rooms room k) x 0 there)
      (λ j jl d. get_or-set_other words (place_of rooms room k) (place_of rooms room j) x 0 (λ e. d (same_place rooms room j room k lt lt e).1))

  pub stored_elsewhere : (other : ℕ) (n : ℕ) → other < rooms → other ≢ room → words_in rooms other n (set words (place_of rooms room k) x) ≡ words_in rooms other n words
  stored_elsewhere other n ol away =
      tabulated_same (2 * n) _ _
      (λ j jl. get_or-set_other words (place_of rooms room k) (place_of rooms other j) x 0 (λ e. away (same_place rooms other j room k ol lt e).0))

module _ {S : Type 0} (o : Openings) (slots id : ℕ) (me : Me S Views) (room k : ℕ) (f : ℕ → ℕ)
    (lt : room < rooms_in me.0) (low : k < 2 * (view_in me.0 room).opening.quorums.nodes) (seated : IsSeated (view_in me.0 room))
    (then : ℕ → Me S View → Type 0) (after : ℕ → Me S Views → Type 0)
    (told : (n : ℕ) (w : View) (c : List (ℕ × S)) → then n (w, c) → after n (views_with me.0 room w, c))
    (allowed : (p : Opening) → Allows (RoomRule p) slots id (view_in me.0 room, me.1) k f then)
    (s : State S Views) (rule : FamilyRule o s) (len : length s.homes ≡ slots) (at : get_elem? s.views id ≡ some me.0) where
  rooms_are : rooms_in me.0 ≡ o.rooms
  rooms_are = let h : room < rooms_in me.0 = lt in rule.sized id me.0 at (omega arith)

  is_room : room < o.rooms
  is_room = subst (λ (r : ℕ). room < r) rooms_are lt

  seen : (other : ℕ) → get_elem? (map (λ v. view_in v other) s.views) id ≡ some (view_in me.0 other)
  seen other = at_map (λ v. view_in v other) s.views id me.0 at

  count_is : (view_in me.0 room).opening.quorums.nodes ≡ (opening_in o room).quorums.nodes
  count_is = ap (λ (p : Opening). p.quorums.nodes) (((rule.each room is_room).views id (view_in me.0 room) (seen room)).opening seated.live)

  low_here : k < 2 * (opening_in o room).quorums.nodes
  low_here = subst (λ (n : ℕ). k < 2 * n) count_is low

  there : place_of o.rooms room k < length s.words
  there =
      subst (λ (n : ℕ). place_of o.rooms room k < n) (sym rule.size)
      (place_below o.rooms room (count_of o) k is_room (subst (λ (n : ℕ). k < 2 * n) (rule.same room is_room) low_here))

  found : get_or (words_in o.rooms room (opening_in o room).quorums.nodes s.words) k 0 ≡ get_or s.words (place_of o.rooms room k) 0
  found = at_tabulated (2 * (opening_in o room).quorums.nodes) (λ j. get_or s.words (place_of o.rooms room j) 0) k 0 low_here

  module _ (w : View) (a : Act S) (x : ℕ)
      (next : RoomRule (opening_in o room) (stepped (room_in o room s) k x id me.1 w a)) where
    after_step : State S Views
    after_step = stepped s (place_of o.rooms room k) x id me.1 (views_with me.0 room w) a

    in_room : RoomRule (opening_in o room) (room_in o room (stepped s (place_of o.rooms room k) x id me.1 (views_with me.0 room w) a))
    in_room =
        rule_of (opening_in o room) (stepped (room_in o room s) k x id me.1 w a) (room_in o room (stepped s (place_of o.rooms room k) x id me.1 (views_with me.0 room w) a))
        (stored o.rooms room (opening_in o room).quorums.nodes s.words k x is_room low_here there)
        (map-set (λ v. view_in v room) s.views id (views_with me.0 room w)
        ∙ ap (λ (v : View). set (map (λ v. view_in v room) s.views) id v) (get_or-set_same me.0.rooms room w nobody lt)) next

    elsewhere : (other : ℕ) → other < o.rooms → other ≢ room → RoomRule (opening_in o other) (room_in o other (stepped s (place_of o.rooms room k) x id me.1 (views_with me.0 room w) a))
    elsewhere other ol away =
        rule_of (opening_in o other) (room_in o other s) (room_in o other (stepped s (place_of o.rooms room k) x id me.1 (views_with me.0 room w) a))
        (stored_elsewhere o.rooms room (opening_in o room).quorums.nodes s.words k x is_room low_here there other (opening_in o other).quorums.nodes ol away)
        (map-set (λ v. view_in v other) s.views id (views_with me.0 room w)
        ∙ (ap (λ (v : View). set (map (λ v. view_in v other) s.views) id v) (get_or-set_other me.0.rooms room other w nobody away)
        ∙ set_again (map (λ v. view_in v other) s.views) id (view_in me.0 other) (seen other))) (rule.each other ol)

    by : (other : ℕ) → other < o.rooms → Dec (other ≡ room) → RoomRule (opening_in o other) (room_in o other (stepped s (place_of o.rooms room k) x id me.1 (views_with me.0 room w) a))
    by other ol (yes e) = subst (λ (r : ℕ). RoomRule (opening_in o r) (room_in o r (stepped s (place_of o.rooms room k) x id me.1 (views_with me.0 room w) a))) (sym e) in_room
    by other ol (no d) = elsewhere other ol d

    sized : (j : ℕ) (v : Views) → get_elem? (set s.views id (views_with me.0 room w)) j ≡ some v → 0 < rooms_in v → rooms_in v ≡ o.rooms
    sized j v e pos =
        elim (at_set s.views id j (views_with me.0 room w) v e) [
          | inl p ↦ subst (λ (u : Views). rooms_in u ≡ o.rooms) p.1 (length-set me.0.rooms room w ∙ rooms_are)
          | inr p ↦ rule.sized j v p.1 pos
        ]

    keeps_all : FamilyRule o (stepped s (place_of o.rooms room k) x id me.1 (views_with me.0 room w) a)
    keeps_all =
        record {
          size = length-set s.words (place_of o.rooms room k) x ∙ rule.size;
          same = rule.same;
          sized = sized;
          each = λ other ol. by other ol (ℕ_discrete other room);
        }

  steps_on : get_or s.words (place_of o.rooms room k) 0 < 18446744073709551616
      → (w : Views) × (a : Act S) × Valid s.homes me.1 a × FamilyRule o (stepped s (place_of o.rooms room k) (f (get_or s.words (place_of o.rooms room k) 0)) id me.1 w a)
      × after (get_or s.words (place_of o.rooms room k) 0) (w, carried_after me.1 a)
  steps_on bound =
      let n1 : ℕ = get_or (words_in o.rooms room (opening_in o room).quorums.nodes s.words) k 0 in
      let n : ℕ = get_or s.words (place_of o.rooms room k) 0 in
      let one = allowed (opening_in o room) (room_in o room s) (rule.each room is_room) len (seen room) (subst (λ (m : ℕ). m < 18446744073709551616) (sym found) bound) in (
        views_with me.0 room one.0,
        one.1,
        one.2,
        keeps_all one.0 one.1 (f n) (subst (λ (m : ℕ). RoomRule (opening_in o room) (stepped (room_in o room s) k (f m) id me.1 one.0 one.1)) found one.3),
        told n one.0 (carried_after me.1 one.1) (subst (λ (m : ℕ). then m (one.0, carried_after me.1 one.1)) found one.4),
      )

  pub lifted : get_or s.words (place_of (rooms_in me.0) room k) 0 < 18446744073709551616
      → (w : Views) × (a : Act S) × Valid s.homes me.1 a × FamilyRule o (stepped s (place_of (rooms_in me.0) room k) (f (get_or s.words (place_of (rooms_in me.0) room k) 0)) id me.1 w a)
      × after (get_or s.words (place_of (rooms_in me.0) room k) 0) (w, carried_after me.1 a)
  lifted =
      subst
      (λ (r : ℕ). get_or s.words (place_of r room k) 0 < 18446744073709551616
      → (w : Views) × (a : Act S) × Valid s.homes me.1 a × FamilyRule o (stepped s (place_of r room k) (f (get_or s.words (place_of r room k) 0)) id me.1 w a)
      × after (get_or s.words (place_of r room k) 0) (w, carried_after me.1 a))
      (sym rooms_are) steps_on

-- what a step in a room is allowed to tell, it is allowed to tell in the table
pub plays : {S : Type 0} (o : Openings) (slots id : ℕ) (me : Me S Views) (room k : ℕ) (f number : ℕ → ℕ) (first second : ℕ) (said : Option S)
    (T : Step S → Me S View → ℕ → Me S View → Type 0)
    → room < rooms_in me.0 → k < 2 * (view_in me.0 room).opening.quorums.nodes → IsSeated (view_in me.0 room)
    → ((p : Opening) → Allows (RoomRule p) slots id (view_in me.0 room, me.1) k f (λ n. T (step slots k first second said) (view_in me.0 room, me.1) (number n)))
    → Allows (FamilyRule o) slots id me (place_of (rooms_in me.0) room k) f (λ n. StepsInItsRoom T (step slots (place_of (rooms_in me.0) room k) first second said) me (number n))
plays {S} o slots id me room k f number first second said T lt low seated allowed s rule len at bound =
    lifted o slots id me room k f lt low seated (λ n. T (step slots k first second said) (view_in me.0 room, me.1) (number n))
    (λ n. StepsInItsRoom T (step slots (place_of (rooms_in me.0) room k) first second said) me (number n)) told allowed s rule len at bound
  where
    here : (n : ℕ) (w : View) (c : List (ℕ × S)) → T (step slots k first second said) (view_in me.0 room, me.1) (number n) (w, c)
        → StepsInRoom T room k (step slots (place_of (rooms_in me.0) room k) first second said) me (number n) (views_with me.0 room w, c)
    here n w c h =
        record {
          there = subst (λ (v : View). T (step slots k first second said) (view_in me.0 room, me.1) (number n) (v, c)) (sym (get_or-set_same me.0.rooms room w nobody lt)) h;
          rooms = length-set me.0.rooms room w;
          others = λ other away. get_or-set_other me.0.rooms room other w nobody away;
        }

    told : (n : ℕ) (w : View) (c : List (ℕ × S)) → T (step slots k first second said) (view_in me.0 room, me.1) (number n) (w, c)
        → StepsInItsRoom T (step slots (place_of (rooms_in me.0) room k) first second said) me (number n) (views_with me.0 room w, c)
    told n w c h other j e ol =
        let same = same_place (rooms_in me.0) room k other j lt ol e in
        subst (λ (r : ℕ). StepsInRoom T r j (step slots (place_of (rooms_in me.0) room k) first second said) me (number n) (views_with me.0 room w, c)) same.0
        (subst (λ (i : ℕ). StepsInRoom T room i (step slots (place_of (rooms_in me.0) room k) first second said) me (number n) (views_with me.0 room w, c)) same.1 (here n w c h))

-- ---- a token that is cut, and one that is taken in

module _ {S : Type 0} (o : Openings) (id : ℕ) (v left right : Views) (pos : 0 < rooms_in v) (el : rooms_in left ≡ rooms_in v) (er : rooms_in right ≡ rooms_in v)
    (cut : (room : ℕ) → room < rooms_in v → (p : Opening) → Splits {S = S} (RoomRule p) id (view_in v room) (view_in left room) (view_in right room)) where
  pub splits : Splits {S = S} (FamilyRule o) id v left right
  splits s rule at =
      record {
        size = rule.size;
        same = rule.same;
        sized = sized;
        each = λ room lt.
            let g : Views → View = λ v. view_in v room in
            rule_of (opening_in o room) record { words = (room_in o room s).words; homes = s.homes; views = set (map (λ v. view_in v room) s.views) id (view_in left room) ++ view_in right room ∷ [] } _ refl
            (map-last (λ v. view_in v room) (set s.views id left) right ∙ ap (λ (vs : List View). vs ++ view_in right room ∷ []) (map-set (λ v. view_in v room) s.views id left))
            (cut room (subst (λ (n : ℕ). room < n) (sym here) lt) (opening_in o room) (room_in o room s) (rule.each room lt) (at_map (λ v. view_in v room) s.views id v at));
      }
    where
      here : rooms_in v ≡ o.rooms
      here = rule.sized id v at pos

      sized : (j : ℕ) (u : Views) → get_elem? (set s.views id left ++ right ∷ []) j ≡ some u → 0 < rooms_in u → rooms_in u ≡ o.rooms
      sized j u e p =
          elim (at_snoc (set s.views id left) right u j e) [
            | inl h ↦ elim (at_set s.views id j left u h) [
              | inl q ↦ subst (λ (x : Views). rooms_in x ≡ o.rooms) q.1 (el ∙ here)
              | inr q ↦ rule.sized j u q.1 p
            ]
            | inr h ↦ subst (λ (x : Views). rooms_in x ≡ o.rooms) h (er ∙ here)
          ]

module _ {S : Type 0} (o : Openings) (id : ℕ) (v : Views) (other : ℕ) (w both : Views) (pos : 0 < rooms_in v) (eb : rooms_in both ≡ rooms_in v)
    (join : (room : ℕ) → room < rooms_in v → (p : Opening) → Joins {S = S} (RoomRule p) id (view_in v room) other (view_in w room) (view_in both room) nobody) where
  pub joins : Joins {S = S} (FamilyRule o) id v other w both nowhere
  joins s rule at away there =
      record {
        size = rule.size;
        same = rule.same;
        sized = sized;
        each = λ room lt.
            rule_of (opening_in o room) record { words = (room_in o room s).words; homes = s.homes; views = set (set (map (λ v. view_in v room) s.views) id (view_in both room)) other nobody } _ refl
            (map-set (λ v. view_in v room) (set s.views id both) other nowhere ∙ ap (λ (vs : List View). set vs other nobody) (map-set (λ v. view_in v room) s.views id both))
            (join room (subst (λ (n : ℕ). room < n) (sym here) lt) (opening_in o room) (room_in o room s) (rule.each room lt) (at_map (λ v. view_in v room) s.views id v at) away
            (subst (λ (vs : List View). get_elem? vs other ≡ some (view_in w room)) (map-set (λ v. view_in v room) s.views id both) (at_map (λ v. view_in v room) (set s.views id both) other w there)));
      }
    where
      here : rooms_in v ≡ o.rooms
      here = rule.sized id v at pos

      sized : (j : ℕ) (u : Views) → get_elem? (set (set s.views id both) other nowhere) j ≡ some u → 0 < rooms_in u → rooms_in u ≡ o.rooms
      sized j u e p =
          elim (at_set (set s.views id both) other j nowhere u e) [
            | inl h ↦ absurd (none (subst (λ (x : Views). 0 < rooms_in x) (sym h.1) p))
            | inr h ↦ elim (at_set s.views id j both u h.1) [
              | inl q ↦ subst (λ (x : Views). rooms_in x ≡ o.rooms) q.1 (eb ∙ here)
              | inr q ↦ rule.sized j u q.1 p
            ]
          ]
        where
          none : 0 < 0 → ⊥
          none l = omega arith
