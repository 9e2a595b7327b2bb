-- Functions whose rooms have two numbers, one after another.
use Rattle.std.proofs.Common.{◌≡◌, ℕ, ◌+◌, ◌<◌, ◌≤◌, ◌⊎◌, List, length, get_or, Option, Some, sym, ap, ◌∙◌, arith, inl, inr}
use Rattle.std.specs.Prelude.{slice_get}
use Rattle.std.proofs.lemmas.Bool.{cases_eq}
use Rattle.std.proofs.lemmas.Option.{slice_get-get_or, slice_get_within}
use Rattle.farm_nodes_meet_seats.specs.Functions.{HaveTwoNumbers}
use Rattle.farm_nodes_meet_seats.specs.Held.{Held}
use Rattle.farm_nodes_meet_seats.specs.Lists.{AreAllStrange, IsStrangeAt}

one_item : {S : Type 0} (o : Option S) (x y : S) → o ≡ Some x → o ≡ Some y → x ≡ y
one_item o x y e e' = cc

-- what is read there is there
pub read_at : {S : Type 0} (xs : List S) (n : ℕ) (x : S) → n < length xs → x ≡ get_or xs n x → slice_get xs n ≡ Some x
read_at {S} xs n x within is = slice_get-get_or xs n x within ∙ ap (λ (y : S). Some y) (sym is)

module _ {S T1 T2 T3 T4 : Type 0} (view : S → Held T1 T2 T3 T4) (xs ys : List S) where
  -- of each of the first n, which both have
  pub record AreStrange (n : ℕ) : Type 0 where
    pub within : n ≤ length ys
    pub each : (k : ℕ) → k < n → IsStrangeAt view xs ys k

  pub none_strange : AreStrange 0
  none_strange = record { within = omega arith; each = λ k below. absurd (omega (arith, below)) }

  pub one_strange : (n m : ℕ) (a b : S) → m ≡ n + 1 → slice_get xs n ≡ Some a → slice_get ys n ≡ Some b → HaveTwoNumbers (view a) (view b)
      → AreStrange n → AreStrange m
  one_strange n m a b next ea eb two before = record {
    within = let within : n < length ys = slice_get_within ys n b eb in omega (arith, next, within);
    each = λ k below x y ex ey same. elim (cases_eq k n) [
      | inl is ↦
          let first : a ≡ x = one_item (slice_get xs n) a x ea (ap (λ (j : ℕ). slice_get xs j) (sym is) ∙ ex) in
          let second : b ≡ y = one_item (slice_get ys n) b y eb (ap (λ (j : ℕ). slice_get ys j) (sym is) ∙ ey) in
          two (ap (λ (z : S). (view z).constants.claim.number) first ∙ (same ∙ ap (λ (z : S). (view z).constants.claim.number) (sym second)))
      | inr other ↦ before.each k (omega (arith, below, next, other)) x y ex ey same
    ];
  }

  -- of each of one of the two, so of all that both have
  pub all_strange : (n : ℕ) → (length xs ≤ n) ⊎ (length ys ≤ n) → AreStrange n → AreAllStrange view xs ys
  all_strange n (inl past) before k within x y ex ey = before.each k (omega (arith, within, past)) x y ex ey
  all_strange n (inr past) before k within x y ex ey = before.each k (omega (arith, slice_get_within ys k y ey, past)) x y ex ey

  pub one_number : (n : ℕ) (a b : S) → slice_get xs n ≡ Some a → slice_get ys n ≡ Some b → (HaveTwoNumbers (view a) (view b) → ⊥)
      → AreAllStrange view xs ys → ⊥
  one_number n a b ea eb one two = one (two n (slice_get_within xs n a ea) a b ea eb)
