-- Lists that are tabulated, and lists of images.
use Rattle.std.proofs.Common.{◌≡◌, ◌≢◌, ℕ, zero, suc, ◌<◌, List, [], ◌∷◌, ◌++◌, map, length, set, get_or, refl, ap, arith}
use Rattle.rooms_table.specs.Family.{tabulated}

module _ {A : Type 0} where
  pub at_tabulated : (m : ℕ) (f : ℕ → A) (k : ℕ) (d : A) → k < m → get_or (tabulated m f) k d ≡ f k
  at_tabulated zero f k d lt = absurd (omega arith)
  at_tabulated (suc m) f zero d lt = refl
  at_tabulated (suc m) f (suc k) d lt = at_tabulated m (λ j. f (suc j)) k d (omega arith)

  pub length-tabulated : (m : ℕ) (f : ℕ → A) → length (tabulated m f) ≡ m
  length-tabulated zero f = refl
  length-tabulated (suc m) f = ap suc (length-tabulated m (λ j. f (suc j)))

  pub tabulated_same : (m : ℕ) (f g : ℕ → A) → ((k : ℕ) → k < m → f k ≡ g k) → tabulated m f ≡ tabulated m g
  tabulated_same zero f g h = refl
  tabulated_same (suc m) f g h = λ i. h 0 (omega arith) i ∷ tabulated_same m (λ j. f (suc j)) (λ j. g (suc j)) (λ k lt. h (suc k) (omega arith)) i

  pub set-tabulated : (m : ℕ) (f g : ℕ → A) (k : ℕ) (x : A) → k < m → g k ≡ x → ((j : ℕ) → j < m → j ≢ k → g j ≡ f j) → tabulated m g ≡ set (tabulated m f) k x
  set-tabulated zero f g k x lt e h = absurd (omega arith)
  set-tabulated (suc m) f g zero x lt e h = λ i. e i ∷ tabulated_same m (λ j. g (suc j)) (λ j. f (suc j)) (λ j jl. h (suc j) (omega arith) (λ q. omega arith)) i
  set-tabulated (suc m) f g (suc k) x lt e h =
      λ i. h 0 (omega arith) (λ q. omega arith) i
      ∷ set-tabulated m (λ j. f (suc j)) (λ j. g (suc j)) k x (omega arith) e (λ j jl d. h (suc j) (omega arith) (λ q. d (omega arith))) i

module _ {A B : Type 0} (f : A → B) where
  pub map-set : (xs : List A) (i : ℕ) (x : A) → map f (set xs i x) ≡ set (map f xs) i (f x)
  map-set [] i x = refl
  map-set (y ∷ ys) zero x = refl
  map-set (y ∷ ys) (suc i) x = ap (λ zs. f y ∷ zs) (map-set ys i x)

  pub map-last : (xs : List A) (x : A) → map f (xs ++ x ∷ []) ≡ map f xs ++ f x ∷ []
  map-last [] x = refl
  map-last (y ∷ ys) x = ap (λ zs. f y ∷ zs) (map-last ys x)

  pub length-map : (xs : List A) → length (map f xs) ≡ length xs
  length-map [] = refl
  length-map (x ∷ xs) = ap suc (length-map xs)

  pub get_or-map : (xs : List A) (j : ℕ) (d : A) (e : B) → j < length xs → get_or (map f xs) j e ≡ f (get_or xs j d)
  get_or-map [] j d e lt = absurd (omega arith)
  get_or-map (x ∷ xs) zero d e lt = refl
  get_or-map (x ∷ xs) (suc j) d e lt = get_or-map xs j d e (omega arith)
