-- What holds of each item of a list, item by item.
use Rattle.std.proofs.Common.{◌≡◌, ℕ, zero, suc, ◌+◌, ◌<◌, ◌≤◌, List, [], ◌∷◌, length, get_or, Bool, false, true, Some, None, refl, sym, ap, ◌∙◌, subst, arith, inl, inr}
use Rattle.std.specs.Prelude.{◌↔◌, All, Contains, slice_get}
use Rattle.std.proofs.lemmas.Bool.{cases_eq}
use Rattle.std.proofs.lemmas.List.{get_or_default}
use Rattle.std.proofs.lemmas.Option.{slice_get_within, get_or_from_slice_get}

-- it holds of the items below this place
abbrev pub HoldsBelow : {A : Type 0} → (A → Type 0) → List A → ℕ → Type 0
HoldsBelow {A} P xs place = (k : ℕ) (d : A) → k < place → k < length xs → P (get_or xs k d)

module _ {A : Type 0} (P : A → Type 0) (xs : List A) (place : ℕ) where
  pub holds_on : (e : A) → place < length xs → HoldsBelow P xs place → P (get_or xs place e) → HoldsBelow P xs (place + 1)
  holds_on e within below here = λ k d less in_xs.
      elim (cases_eq k place) [
        | inl same ↦ subst P (sym (ap (λ j. get_or xs j d) same ∙ get_or_default xs place d e within)) here
        | inr other ↦ below k d (omega arith) in_xs
      ]

  -- not all are right where one is not
  pub not_all : (e : A) → place < length xs → ¬ P (get_or xs place e) → (false ≡ true) ↔ All P xs
  not_all e within wrong = (
    λ no. absurd (let impossible : false ≡ true = no in cc),
    λ all. absurd (wrong (all place e within)),
  )

  pub all_of : length xs ≤ place → HoldsBelow P xs place → All P xs
  all_of past below = λ k d within. below k d (omega (arith, past, within)) within

  pub holds_on_got : (x : A) → slice_get xs place ≡ Some x → HoldsBelow P xs place → P x → HoldsBelow P xs (place + 1)
  holds_on_got x is below here = holds_on x (slice_get_within xs place x is) below (subst P (sym (get_or_from_slice_get xs place x x is)) here)

  pub not_all_got : (x : A) → slice_get xs place ≡ Some x → ¬ P x → (false ≡ true) ↔ All P xs
  not_all_got x is wrong = not_all x (slice_get_within xs place x is) (subst (λ y. ¬ P y) (sym (get_or_from_slice_get xs place x x is)) wrong)

-- past the end nothing is got
pub past_of : {A : Type 0} (xs : List A) (place : ℕ) → slice_get xs place ≡ None → length xs ≤ place
past_of [] place none = omega arith
past_of (x ∷ xs) zero none = absurd cc
past_of (x ∷ xs) (suc place) none = omega (arith, past_of xs place none)

-- ---- one among others

pub found_among : {A : Type 0} (xs : List A) (place : ℕ) (x e : A) → slice_get xs place ≡ Some x → x ≡ e → (true ≡ true) ↔ Contains xs e
found_among xs place x e is same = (
  λ yes. (place, slice_get_within xs place x is, get_or_from_slice_get xs place x e is ∙ same),
  λ among. refl,
)

pub not_among : {A : Type 0} (xs : List A) (e : A) → All (λ x. ¬ (x ≡ e)) xs → (false ≡ true) ↔ Contains xs e
not_among xs e none = (
  λ no. absurd (let impossible : false ≡ true = no in cc),
  λ among. absurd (none among.0 e among.1 among.2),
)

-- ---- one or two

pub all_one : {A : Type 0} (P : A → Type 0) (answer : Bool) (x : A) → (answer ≡ true) ↔ P x → (answer ≡ true) ↔ All P (x ∷ [])
all_one P answer x one = (
  λ yes. at (one.0 yes),
  λ all. one.1 (all 0 x (omega arith)),
)
  where
    at : P x → All P (x ∷ [])
    at here zero d below = here
    at here (suc k) d below = absurd (omega (arith, below))

pub all_two : {A : Type 0} (P : A → Type 0) (answer : Bool) (x y : A) → P x → (answer ≡ true) ↔ P y → (answer ≡ true) ↔ All P (x ∷ (y ∷ []))
all_two P answer x y first second = (
  λ yes. at (second.0 yes),
  λ all. second.1 (all 1 y (omega arith)),
)
  where
    at : P y → All P (x ∷ (y ∷ []))
    at here zero d below = first
    at here (suc zero) d below = here
    at here (suc (suc k)) d below = absurd (omega (arith, below))

pub not_two : {A : Type 0} (P : A → Type 0) (answer : Bool) (x y : A) → ¬ P x → answer ≡ false → (answer ≡ true) ↔ All P (x ∷ (y ∷ []))
not_two P answer x y wrong is = (
  λ yes. absurd (let impossible : false ≡ true = sym is ∙ yes in cc),
  λ all. absurd (wrong (all 0 x (omega arith))),
)
