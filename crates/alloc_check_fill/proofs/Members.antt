-- Members of lists that are made of others.
use Rattle.std.proofs.Common.{◌≡◌, zero, suc, List, [], ◌∷◌, get_or, Bool, true, false, refl, sym, ap, ◌∙◌, subst, arith, inl, inr}
use Rattle.std.specs.Prelude.{map, Contains, All, ◌||◌}
use Rattle.std.specs.List.{flat_map, list_any}
use Rattle.std.proofs.lemmas.List.{length-map, get_or-map}
use Rattle.std.proofs.lemmas.List.Elements.{Contains-get_or, Contains-append_left, Contains-append_right, Contains-append_cases}

pub first_of : {A : Type 0} (x : A) (xs : List A) → Contains (x ∷ xs) x
first_of x xs = (0, omega arith, refl)

pub later_of : {A : Type 0} (y : A) (xs : List A) (x : A) → Contains xs x → Contains (y ∷ xs) x
later_of y xs x h = (suc h.0, omega (arith, h.1), h.2)

pub none_of : {A : Type 0} (x : A) → Contains [] x → ⊥
none_of x h = absurd (omega (arith, h.1))

pub all_members : {A : Type 0} (P : A → Type 0) (xs : List A) → ((x : A) → Contains xs x → P x) → All P xs
all_members P xs each k d below = each (get_or xs k d) (Contains-get_or xs k d below)

pub mapped_has : {A B : Type 0} (f : A → B) (xs : List A) (x : A) → Contains xs x → Contains (map f xs) (f x)
mapped_has f xs x h = (h.0, omega (arith, h.1, length-map xs f), get_or-map f xs h.0 x (f x) h.1 ∙ ap f h.2)

pub record IsMapped {A B : Type 0} (f : A → B) (xs : List A) (y : B) : Type 0 where
  pub source : A
  pub there : Contains xs source
  pub is : f source ≡ y

pub mapped_from : {A B : Type 0} (f : A → B) (xs : List A) (y : B) → Contains (map f xs) y → IsMapped f xs y
mapped_from f [] y h = absurd (none_of y h)
mapped_from f (x ∷ xs) y (zero, below, is) = record { source = x; there = first_of x xs; is = is }
mapped_from f (x ∷ xs) y (suc k, below, is) =
    let m = mapped_from f xs y (k, omega (arith, below), is) in
    record { source = m.source; there = later_of x xs m.source m.there; is = m.is }

pub joined_has : {A B : Type 0} (f : A → List B) (xs : List A) (x : A) (y : B) → Contains xs x → Contains (f x) y → Contains (flat_map f xs) y
joined_has f [] x y h among = absurd (none_of x h)
joined_has f (z ∷ xs) x y (zero, below, is) among =
    Contains-append_left (f z) (flat_map f xs) y (subst (λ v. Contains (f v) y) (sym is) among)
joined_has f (z ∷ xs) x y (suc k, below, is) among =
    Contains-append_right (f z) (flat_map f xs) y (joined_has f xs x y (k, omega (arith, below), is) among)

pub record IsJoined {A B : Type 0} (f : A → List B) (xs : List A) (y : B) : Type 0 where
  pub source : A
  pub there : Contains xs source
  pub among : Contains (f source) y

pub joined_from : {A B : Type 0} (f : A → List B) (xs : List A) (y : B) → Contains (flat_map f xs) y → IsJoined f xs y
joined_from f [] y h = absurd (none_of y h)
joined_from f (x ∷ xs) y h = elim (Contains-append_cases (f x) (flat_map f xs) y h) [
  | inl here ↦ record { source = x; there = first_of x xs; among = here }
  | inr later ↦
      let j = joined_from f xs y later in
      record { source = j.source; there = later_of x xs j.source j.there; among = j.among }
]

-- no member passes the test exactly where none is told to
pub none_passes : {A : Type 0} (test : A → Bool) (xs : List A) → list_any test xs ≡ false → (x : A) → Contains xs x → test x ≡ false
none_passes test [] none x h = absurd (none_of x h)
none_passes {A} test (z ∷ xs) none x h = at (test z) refl none h (λ rest. none_passes test xs rest x)
  where
    at : (b : Bool) → test z ≡ b → (b || list_any test xs) ≡ false → Contains (z ∷ xs) x → (list_any test xs ≡ false → Contains xs x → test x ≡ false) → test x ≡ false
    at true is none h later = absurd (let impossible : true ≡ false = none in cc)
    at false is none (zero, below, same) later = subst (λ v. test v ≡ false) same is
    at false is none (suc k, below, same) later = later none (k, omega (arith, below), same)

pub none_told : {A : Type 0} (test : A → Bool) (xs : List A) → ((x : A) → Contains xs x → test x ≡ false) → list_any test xs ≡ false
none_told test [] each = refl
none_told test (z ∷ xs) each =
    ap (λ b. b || list_any test xs) (each z (first_of z xs)) ∙ none_told test xs (λ x h. each x (later_of z xs x h))
