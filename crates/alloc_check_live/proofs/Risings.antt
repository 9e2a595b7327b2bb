-- Lists that rise, and how they end.
use Rattle.std.proofs.Common.{◌≡◌, ℕ, suc, ◌+◌, ◌-◌, ◌<◌, ◌≤◌, List, [], ◌∷◌, ◌++◌, length, true, false, refl, sym, ap, ◌∙◌, arith, inl, inr}
use Rattle.std.specs.Prelude.{slice_get, Contains}
use Rattle.std.proofs.lemmas.Bool.{eqb-true, eqb-false, eq-eqb}
use Rattle.alloc_check_live.specs.Lists.{RisesFrom}
use Rattle.alloc_check_live.specs.Walks.{ends_with, is_that}
use Rattle.alloc_check_live.proofs.Tables.{head_of, later_of, one_or_later, none_of}

-- the last item tells how a list ends
pub last_tells : (xs : List ℕ) (number : ℕ) → is_that (slice_get xs (length xs - 1)) number ≡ ends_with xs number
last_tells [] number = refl
last_tells (x ∷ []) number = refl
last_tells (x ∷ (y ∷ ys)) number =
    let here : suc (suc (length ys)) - 1 ≡ suc (length ys) = omega arith in
    let there : suc (length ys) - 1 ≡ length ys = omega arith in
    ap (λ k. is_that (slice_get (x ∷ (y ∷ ys)) k) number) here ∙ (ap (λ k. is_that (slice_get (y ∷ ys) k) number) (sym there) ∙ last_tells (y ∷ ys) number)

pub ends-push : (xs : List ℕ) (number : ℕ) → ends_with (xs ++ number ∷ []) number ≡ true
ends-push [] number = eq-eqb number number refl
ends-push (x ∷ []) number = eq-eqb number number refl
ends-push (x ∷ (y ∷ ys)) number = ends-push (y ∷ ys) number

pub has_last : (xs : List ℕ) (number : ℕ) → ends_with xs number ≡ true → Contains xs number
has_last [] number e = absurd (let impossible : false ≡ true = e in cc)
has_last (x ∷ []) number e = (0, omega arith, eqb-true x number e)
has_last (x ∷ (y ∷ ys)) number e = later_of x (y ∷ ys) number (has_last (y ∷ ys) number e)

-- a rising list of numbers up to one in which it does not end, is of numbers below it
pub all_below : (low : ℕ) (xs : List ℕ) (number : ℕ) → RisesFrom low xs → ((p : ℕ) → Contains xs p → p ≤ number) → ends_with xs number ≡ false → (p : ℕ) → Contains xs p → p < number
all_below low [] number rises upto e p h = none_of p h
all_below low (x ∷ []) number rises upto e p h =
    let le : x ≤ number = upto x (head_of x []) in
    let other : ¬ (x ≡ number) = eqb-false x number e in
    elim (one_or_later x [] p h) as (λ _. p < number) [
      | inl same ↦ omega arith
      | inr later ↦ none_of p later
    ]
all_below low (x ∷ (y ∷ ys)) number rises upto e p h =
    let le : y ≤ number = upto y (later_of x (y ∷ ys) y (head_of y ys)) in
    elim (one_or_later x (y ∷ ys) p h) as (λ _. p < number) [
      | inl same ↦ omega (arith, rises.1.0)
      | inr later ↦ all_below (suc x) (y ∷ ys) number rises.1 (λ q c. upto q (later_of x (y ∷ ys) q c)) e p later
    ]

pub rises-push : (low : ℕ) (xs : List ℕ) (number : ℕ) → RisesFrom low xs → low ≤ number → ((p : ℕ) → Contains xs p → p < number) → RisesFrom low (xs ++ number ∷ [])
rises-push low [] number rises le below = (le, tt)
rises-push low (x ∷ xs) number rises le below = (rises.0, rises-push (suc x) xs number rises.1 (omega (arith, below x (head_of x xs))) (λ p c. below p (later_of x xs p c)))

-- not more than there is space for
pub rises_few : (low high : ℕ) (xs : List ℕ) → RisesFrom low xs → low ≤ high → ((p : ℕ) → Contains xs p → p < high) → length xs + low ≤ high
rises_few low high [] rises le below = omega (arith, le)
rises_few low high (x ∷ xs) rises le below =
    let less : x < high = below x (head_of x xs) in
    omega (arith, rises.0, rises_few (suc x) high xs rises.1 (omega arith) (λ p c. below p (later_of x xs p c)))
