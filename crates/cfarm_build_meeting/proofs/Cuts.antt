-- A list in two parts, of which the last of the one and the first of the other are set.
use Rattle.std.proofs.Common.{◌≡◌, ◌≢◌, ◌<◌, ℕ, zero, suc, List, [], ◌∷◌, ◌++◌, length, get_or, set, Some, refl, ap, arith}
use Rattle.std.specs.Prelude.{slice_get}

module _ {A : Type 0} where
  pub cut_first : (front back : List A) (i : ℕ) (d : A) → length front ≡ suc i → slice_get (front ++ back) i ≡ Some (get_or front i d)
  cut_first [] back i d cut = absurd (omega (arith, cut))
  cut_first (x ∷ front) back zero d cut = refl
  cut_first (x ∷ front) back (suc i) d cut = cut_first front back i d (omega (arith, cut))

  first_of : (back : List A) (d : A) → 0 < length back → slice_get back 0 ≡ Some (get_or back 0 d)
  first_of [] d some = absurd (omega (arith, some))
  first_of (x ∷ back) d some = refl

  pub cut_second : (front back : List A) (i : ℕ) (d : A) → length front ≡ suc i → 0 < length back → slice_get (front ++ back) (suc i) ≡ Some (get_or back 0 d)
  cut_second [] back i d cut some = absurd (omega (arith, cut))
  cut_second (x ∷ []) back zero d cut some = first_of back d some
  cut_second (x ∷ y ∷ front) back zero d cut some = absurd (omega (arith, cut))
  cut_second (x ∷ front) back (suc i) d cut some = cut_second front back i d (omega (arith, cut)) some

  off_first : (back : List A) (w : A) (k : ℕ) → k ≢ 0 → slice_get (set back 0 w) k ≡ slice_get back k
  off_first [] w k other = refl
  off_first (x ∷ back) w zero other = absurd (other refl)
  off_first (x ∷ back) w (suc k) other = refl

  pub cut_others : (front back : List A) (i : ℕ) (v w : A) → length front ≡ suc i → (k : ℕ) → k ≢ i → k ≢ suc i
      → slice_get (set front i v ++ set back 0 w) k ≡ slice_get (front ++ back) k
  cut_others [] back i v w cut k first second = absurd (omega (arith, cut))
  cut_others (x ∷ []) back zero v w cut zero first second = absurd (first refl)
  cut_others (x ∷ []) back zero v w cut (suc k) first second = off_first back w k (λ e. second (ap suc e))
  cut_others (x ∷ y ∷ front) back zero v w cut k first second = absurd (omega (arith, cut))
  cut_others (x ∷ front) back (suc i) v w cut zero first second = refl
  cut_others (x ∷ front) back (suc i) v w cut (suc k) first second =
      cut_others front back i v w (omega (arith, cut)) k (λ e. first (ap suc e)) (λ e. second (ap suc e))
