-- Neighbours of whom all functions were counted, one more at a time, from the last back to the first.
use Rattle.std.proofs.Common.{◌≡◌, ℕ, suc, ◌+◌, ◌≤◌, List, map, length, Option, Some, sym, ap, subst, subst₂, ◌∙◌, arith, inl, inr}
use Rattle.std.specs.List.{AllZip}
use Rattle.std.specs.Prelude.{option_map, slice_get}
use Rattle.std.proofs.lemmas.Bool.{cases_eq}
use Rattle.std.proofs.lemmas.Option.{slice_get-map, slice_get_within}
use Rattle.rooms_hall.specs.declared.hall.Naming as naming
use Rattle.cfarm_build_result.specs.Alike.{HaveCounted, HaveCountedAll, HaveMissed, KeepsLearned}
use Rattle.cfarm_build_result.specs.Neighbours.{EachTwo}
use Rattle.cfarm_build_result.specs.FarmNodesMeetSeatsHeld.{held_of}
use Rattle.cfarm_build_result.specs.Learned.{learned_by}
use Rattle.cfarm_build_result.specs.Lists.{HaveMetAll}
use Rattle.farm_nodes_turn_node.specs.NumberedSeat.{NumberedSeat}
use Rattle.cfarm_build_result.specs.Going.{SeatsGoOn}
use Rattle.cfarm_build_result.proofs.Alike.{counted_now, keeps_through}
use Rattle.cfarm_build_result.proofs.Going.{go_through}
use Rattle.cfarm_build_meeting.specs.Counted.{AreCountedAt, AreMissed}
use Rattle.cfarm_build_result.proofs.Zips.{as_long, zipped}

one_item : {S : Type 0} (o : Option S) (x y : S) → o ≡ Some x → o ≡ Some y → x ≡ y
one_item o x y e e' = cc

module _ {H : Type 0} {h : naming.Ghosts H} where
  -- a meeting that counted as many as both have now
  counted_all : (xs ys xs' ys' : List (NumberedSeat H h)) (count : ℕ) → HaveMetAll xs ys xs' ys' count held_of → count ≡ length xs' → count ≡ length ys'
      → HaveCountedAll xs' ys'
  counted_all xs ys xs' ys' count met first second = elim (cases_eq (length xs) (length ys)) [
    | inl alike ↦
        let all = met.met alike in
        record { first = xs; second = ys; alike = alike; met = subst (λ n. HaveMetAll xs ys xs' ys' n held_of) (first ∙ all.first) met }
    | inr other ↦
        let same = met.unlike other in
        absurd (other (sym (ap (λ l. length l) same.0) ∙ (sym first ∙ (second ∙ ap (λ l. length l) same.1))))
  ]

  pub all_counted : (xs ys xs' ys' : List (NumberedSeat H h)) (count : ℕ) → HaveMetAll xs ys xs' ys' count held_of → count ≡ length xs' → count ≡ length ys'
      → HaveCounted xs' ys'
  all_counted xs ys xs' ys' count met first second = counted_now xs' ys' (counted_all xs ys xs' ys' count met first second)

  pub not_counted : (xs ys xs' ys' : List (NumberedSeat H h)) (count : ℕ) → HaveMetAll xs ys xs' ys' count held_of
      → (count ≡ length xs' → count ≡ length ys' → ⊥) → HaveMissed xs' ys'
  not_counted xs ys xs' ys' count met missed = record { first = xs; second = ys; count = count; met = met; missed = missed }

  -- whatever they meet since
  counted_still : (xs ys xs' ys' : List (NumberedSeat H h)) → SeatsGoOn xs xs' → SeatsGoOn ys ys'
      → KeepsLearned (learned_by xs) (learned_by xs') → KeepsLearned (learned_by ys) (learned_by ys') → HaveCounted xs ys → HaveCounted xs' ys'
  counted_still xs ys xs' ys' first_on second_on first second counted = record {
    first = counted.first;
    second = counted.second;
    counted = counted.counted;
    first_on = go_through counted.first xs xs' counted.first_on first_on;
    second_on = go_through counted.second ys ys' counted.second_on second_on;
    first_keeps = keeps_through (learned_by counted.first) (learned_by xs) (learned_by xs') counted.first_keeps first;
    second_keeps = keeps_through (learned_by counted.second) (learned_by ys) (learned_by ys') counted.second_keeps second;
  }

module _ {N H : Type 0} {h : naming.Ghosts H} (seats : N → List (NumberedSeat H h)) where
  -- the two at a place
  pub at_place : (nodes : List N) (number : ℕ) (n m : N) → slice_get nodes number ≡ Some n → slice_get nodes (suc number) ≡ Some m
      → HaveCounted (seats n) (seats m) → AreCountedAt seats nodes number
  at_place nodes number n m en em counted n' m' en' em' =
      subst₂ (λ u v. HaveCounted (seats u) (seats v)) (one_item (slice_get nodes number) n n' en en') (one_item (slice_get nodes (suc number)) m m' em em') counted

  -- as the nodes are seen
  pub missed_seen : {M : Type 0} (view : N → M) (there : M → List (NumberedSeat H h)) → ((n : N) → there (view n) ≡ seats n) → (nodes : List N)
      → AreMissed seats nodes → AreMissed there (map view nodes)
  missed_seen view there same nodes are = record {
    number = are.number;
    node = view are.node;
    next = view are.next;
    there = slice_get-map view nodes are.number ∙ ap (λ o. option_map view o) are.there;
    behind = slice_get-map view nodes (suc are.number) ∙ ap (λ o. option_map view o) are.behind;
    missed = subst₂ (λ u v. HaveMissed u v) (sym (same are.node)) (sym (same are.next)) are.missed;
  }

  -- each two, of the last so many
  abbrev pub AreBack : ℕ → List N → Type 0
  AreBack done nodes = (k : ℕ) → length nodes ≤ k + done → AreCountedAt seats nodes k

  pub none_back : (nodes : List N) → AreBack 1 nodes
  none_back nodes k end n m en em = let within = slice_get_within nodes (suc k) m em in absurd (omega (arith, within, end))

  module _ (Are : N → N → Type 0) (on : (n m : N) → Are n m → SeatsGoOn (seats n) (seats m))
      (keeps : (n m : N) → Are n m → KeepsLearned (learned_by (seats n)) (learned_by (seats m))) where
    pub one_back : (done number : ℕ) (old new : List N) → AllZip Are old new → number + 1 + done ≡ length old
        → AreCountedAt seats new number → AreBack done old → AreBack (done + 1) new
    one_back done number old new zip at counted back k end n m en em = elim (cases_eq k number) [
      | inl same ↦ counted n m (sym (ap (λ j. slice_get new j) same) ∙ en) (sym (ap (λ j. slice_get new (suc j)) same) ∙ em)
      | inr other ↦
          let x = zipped Are old new k n zip en in
          let y = zipped Are old new (suc k) m zip em in
          let long = as_long Are old new zip in
          counted_still (seats x.0) (seats y.0) (seats n) (seats m) (on x.0 n x.2) (on y.0 m y.2) (keeps x.0 n x.2) (keeps y.0 m y.2)
          (back k (omega (arith, end, other, at, long)) x.0 y.0 x.1 y.1)
    ]

  pub all_there : (done : ℕ) (nodes : List N) → length nodes ≤ done → AreBack done nodes → EachTwo (λ n m. HaveCounted (seats n) (seats m)) nodes
  all_there done nodes end back k n m en em = back k (omega (arith, end)) n m en em
