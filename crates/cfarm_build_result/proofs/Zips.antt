-- Lists beside one another, of which it is said place by place.
use Rattle.std.proofs.Common.{◌≡◌, ℕ, zero, suc, ◌<◌, List, [], ◌∷◌, ◌++◌, map, length, get_or, set, take, drop, Some, refl, sym, ap, subst, arith}
use Rattle.std.specs.List.{All, AllByRecursion, AllZip}
use Rattle.std.specs.Prelude.{slice_get}

pub map_twice : {A B C : Type 0} (f : A → B) (g : B → C) (xs : List A) → map g (map f xs) ≡ map (λ x. g (f x)) xs
map_twice f g [] = refl
map_twice f g (x ∷ xs) = ap (λ l. g (f x) ∷ l) (map_twice f g xs)

module _ {A B : Type 0} (R : A → B → Type 0) where
  -- what holds of each, and is kept
  pub kept : (P : A → Type 0) (Q : B → Type 0) → ((x : A) (y : B) → R x y → P x → Q y) → (xs : List A) (ys : List B)
      → AllZip R xs ys → AllByRecursion P xs → AllByRecursion Q ys
  kept P Q keep [] [] z p = tt
  kept P Q keep [] (y ∷ ys) z p = absurd z
  kept P Q keep (x ∷ xs) [] z p = absurd z
  kept P Q keep (x ∷ xs) (y ∷ ys) z p = (keep x y z.0 p.0, kept P Q keep xs ys z.1 p.1)

  -- as they are seen
  pub seen : {C E : Type 0} (f : A → C) (g : B → E) (P : A → Type 0) (S : C → E → Type 0) → ((x : A) (y : B) → P x → R x y → S (f x) (g y))
      → (xs : List A) (ys : List B) → AllByRecursion P xs → AllZip R xs ys → AllZip S (map f xs) (map g ys)
  seen f g P S so [] [] p z = tt
  seen f g P S so [] (y ∷ ys) p z = absurd z
  seen f g P S so (x ∷ xs) [] p z = absurd z
  seen f g P S so (x ∷ xs) (y ∷ ys) p z = (so x y p.0 z.0, seen f g P S so xs ys p.1 z.1)

  pub as_long : (xs : List A) (ys : List B) → AllZip R xs ys → length ys ≡ length xs
  as_long [] [] z = refl
  as_long [] (y ∷ ys) z = absurd z
  as_long (x ∷ xs) [] z = absurd z
  as_long (x ∷ xs) (y ∷ ys) z = ap suc (as_long xs ys z.1)

  -- the one that it comes from
  pub zipped : (xs : List A) (ys : List B) (k : ℕ) (y : B) → AllZip R xs ys → slice_get ys k ≡ Some y → (x : A) × (slice_get xs k ≡ Some x) × R x y
  zipped [] [] k y z e = absurd (cc e)
  zipped [] (b ∷ ys) k y z e = absurd z
  zipped (a ∷ xs) [] k y z e = absurd z
  zipped (a ∷ xs) (b ∷ ys) zero y z e = (a, refl, subst (λ v. R a v) (let same : b ≡ y = cc e in same) z.0)
  zipped (a ∷ xs) (b ∷ ys) (suc k) y z e = zipped xs ys k y z.1 e

module _ {A : Type 0} (R : A → A → Type 0) where
  pub append : (xs ys zs ws : List A) → AllZip R xs ys → AllZip R zs ws → AllZip R (xs ++ zs) (ys ++ ws)
  append [] [] zs ws z w = w
  append [] (y ∷ ys) zs ws z w = absurd z
  append (x ∷ xs) [] zs ws z w = absurd z
  append (x ∷ xs) (y ∷ ys) zs ws z w = (z.0, append xs ys zs ws z.1 w)

  pub through : ((x y z : A) → R x y → R y z → R x z) → (xs ys zs : List A) → AllZip R xs ys → AllZip R ys zs → AllZip R xs zs
  through one [] [] zs z w = w
  through one [] (y ∷ ys) zs z w = absurd z
  through one (x ∷ xs) [] zs z w = absurd z
  through one (x ∷ xs) (y ∷ ys) [] z w = absurd w
  through one (x ∷ xs) (y ∷ ys) (u ∷ us) z w = (one x y u z.0 w.0, through one xs ys us z.1 w.1)

  module _ (same : (x : A) → R x x) where
    pub all_same : (xs : List A) → AllZip R xs xs
    all_same [] = tt
    all_same (x ∷ xs) = (same x, all_same xs)

    -- one of them changes
    pub one_set : (xs : List A) (i : ℕ) (d v : A) → i < length xs → R (get_or xs i d) v → AllZip R xs (set xs i v)
    one_set [] i d v below r = absurd (omega (arith, below))
    one_set (y ∷ ys) zero d v below r = (r, all_same ys)
    one_set (y ∷ ys) (suc i) d v below r = (same y, one_set ys i d v (omega (arith, below)) r)

-- what is so of all is so of the one at a place
pub all_at : {A : Type 0} (P : A → Type 0) (xs : List A) (i : ℕ) (x : A) → AllByRecursion P xs → i < length xs → x ≡ get_or xs i x → P x
all_at P [] i x all below is = absurd (omega (arith, below))
all_at P (y ∷ ys) zero x all below is = subst P (sym is) all.0
all_at P (y ∷ ys) (suc i) x all below is = all_at P ys i x all.1 (omega (arith, below)) is

pub all_get : {A : Type 0} (P : A → Type 0) (xs : List A) (i : ℕ) (d : A) → AllByRecursion P xs → i < length xs → P (get_or xs i d)
all_get P [] i d all below = absurd (omega (arith, below))
all_get P (y ∷ ys) zero d all below = all.0
all_get P (y ∷ ys) (suc i) d all below = all_get P ys i d all.1 (omega (arith, below))

pub all_weaker : {A : Type 0} (P Q : A → Type 0) → ((x : A) → P x → Q x) → (xs : List A) → AllByRecursion P xs → AllByRecursion Q xs
all_weaker P Q so [] all = tt
all_weaker P Q so (x ∷ xs) all = (so x all.0, all_weaker P Q so xs all.1)

pub all_mapped : {A B : Type 0} (f : A → B) (P : B → Type 0) (xs : List A) → AllByRecursion (λ x. P (f x)) xs → AllByRecursion P (map f xs)
all_mapped f P [] all = tt
all_mapped f P (x ∷ xs) all = (all.0, all_mapped f P xs all.1)

-- what is so at each place is so of all
pub all_of : {A : Type 0} (P : A → Type 0) (xs : List A) → All P xs → AllByRecursion P xs
all_of P [] each = tt
all_of P (x ∷ xs) each = (each 0 x (omega arith), all_of P xs (λ k d below. each (suc k) d (omega (arith, below))))

-- what is so of two lists behind one another
pub all_front : {A : Type 0} (P : A → Type 0) (xs ys : List A) → AllByRecursion P (xs ++ ys) → AllByRecursion P xs
all_front P [] ys all = tt
all_front P (x ∷ xs) ys all = (all.0, all_front P xs ys all.1)

pub all_back : {A : Type 0} (P : A → Type 0) (xs ys : List A) → AllByRecursion P (xs ++ ys) → AllByRecursion P ys
all_back P [] ys all = all
all_back P (x ∷ xs) ys all = all_back P xs ys all.1

-- Two are set, on the two sides of a cut.
pub set_first : {A : Type 0} (front back : List A) (i : ℕ) (v : A) → length front ≡ suc i → slice_get (set front i v ++ back) i ≡ Some v
set_first [] back i v cut = absurd (omega (arith, cut))
set_first (x ∷ front) back zero v cut = refl
set_first (x ∷ front) back (suc i) v cut = set_first front back i v (omega (arith, cut))

pub set_second : {A : Type 0} (front back : List A) (i : ℕ) (v w : A) → length front ≡ suc i → 0 < length back
    → slice_get (set front i v ++ set back 0 w) (suc i) ≡ Some w
set_second [] back i v w cut some = absurd (omega (arith, cut))
set_second (x ∷ []) [] zero v w cut some = absurd (omega (arith, some))
set_second (x ∷ []) (y ∷ back) zero v w cut some = refl
set_second (x ∷ z ∷ front) back zero v w cut some = absurd (omega (arith, cut))
set_second (x ∷ front) back (suc i) v w cut some = set_second front back i v w (omega (arith, cut)) some

-- A list of which as many were written over, from its front, is what was written.
pub written : {A : Type 0} (n : ℕ) (new old : List A) → n ≡ length old → length new ≡ length old → take n (new ++ drop (length new) old) ≡ new
written zero [] [] all same = refl
written (suc n) [] [] all same = refl
written n [] (y ∷ ys) all same = absurd (omega (arith, same))
written n (x ∷ xs) [] all same = absurd (omega (arith, same))
written zero (x ∷ xs) (y ∷ ys) all same = absurd (omega (arith, all))
written (suc n) (x ∷ xs) (y ∷ ys) all same = ap (λ l. x ∷ l) (written n xs ys (omega (arith, all)) (omega (arith, same)))
