-- Places of lists, and the rooms of a function.
use Rattle.std.proofs.Common.{◌≡◌, ◌≢◌, ℕ, zero, suc, ◌%◌, ◌<◌, List, [], ◌∷◌, length, map, set, slice_get, get_or, Some, refl, sym, ap, ◌∙◌, subst, arith}
use Rattle.std.proofs.lemmas.Option.{get_or_from_slice_get}
use Rattle.farm_nodes_turn_passes.specs.declared.which.Which.{Which}
use Rattle.farm_nodes_turn_passes.specs.declared.which.Which.TheVariants.{Constants, Expressions, Allocation, Order}
use Rattle.farm_nodes_turn_passes.specs.Numbers.{function_of, pass_at, pass_of, place_of}
use Rattle.farm_nodes_turn_passes.specs.Fours.{Four, words_of}
use Rattle.farm_nodes_turn_function.specs.Turned.{OthersStay}

-- ---- lists

module _ {X : Type 0} where
  -- what stands below the length
  pub found : (xs : List X) (i : ℕ) → i < length xs → (x : X) × (slice_get xs i ≡ Some x)
  found [] i lt = absurd (omega arith)
  found (x ∷ xs) zero lt = (x, refl)
  found (x ∷ xs) (suc i) lt = found xs i (omega arith)

  at_set : (xs : List X) (i : ℕ) (new y : X) → slice_get (set xs i new) i ≡ Some y → new ≡ y
  at_set [] i new y e = absurd (cc)
  at_set (x ∷ xs) zero new y e = cc
  at_set (x ∷ xs) (suc i) new y e = at_set xs i new y e

  set_here : (xs : List X) (i : ℕ) (new : X) → i < length xs → slice_get (set xs i new) i ≡ Some new
  set_here [] i new lt = absurd (omega arith)
  set_here (x ∷ xs) zero new lt = refl
  set_here (x ∷ xs) (suc i) new lt = set_here xs i new (omega arith)

  -- what was written stands there
  pub set_at : (xs : List X) (i at : ℕ) (new : X) → i ≡ at → i < length xs → slice_get (set xs i new) at ≡ Some new
  set_at xs i at new same lt = subst (λ (k : ℕ). slice_get (set xs i new) k ≡ Some new) same (set_here xs i new lt)

  -- a write changes its own place alone
  pub off_set : (xs : List X) (i j : ℕ) (new : X) → j ≢ i → slice_get (set xs i new) j ≡ slice_get xs j
  off_set [] i j new other = refl
  off_set (x ∷ xs) zero zero new other = absurd (other refl)
  off_set (x ∷ xs) zero (suc j) new other = refl
  off_set (x ∷ xs) (suc i) zero new other = refl
  off_set (x ∷ xs) (suc i) (suc j) new other = off_set xs i j new (λ (e : j ≡ i). other (ap (λ (n : ℕ). suc n) e))

module _ {X Y : Type 0} (f : X → Y) where
  pub mapped : (xs : List X) (i : ℕ) (y : Y) → slice_get (map f xs) i ≡ Some y → (x : X) × (slice_get xs i ≡ Some x) × (f x ≡ y)
  mapped [] i y e = absurd (cc)
  mapped (x ∷ xs) zero y e = (x, refl, cc)
  mapped (x ∷ xs) (suc i) y e = mapped xs i y e

  pub map_at : (xs : List X) (i : ℕ) (x : X) → slice_get xs i ≡ Some x → slice_get (map f xs) i ≡ Some (f x)
  map_at [] i x e = absurd (cc)
  map_at (y ∷ ys) zero x e = let same : y ≡ x = cc in ap (λ (z : X). Some (f z)) same
  map_at (y ∷ ys) (suc i) x e = map_at ys i x e

  pub map_length : (xs : List X) → length (map f xs) ≡ length xs
  map_length [] = refl
  map_length (x ∷ xs) = ap (λ (n : ℕ). suc n) (map_length xs)

  -- what is so of what was and is written at a place
  pub place_set : (P : Y → Y → Type 0) (xs : List X) (i at : ℕ) (old new : X) → i ≡ at → old ≡ get_or xs i old → P (f old) (f new)
      → (x y : X) → slice_get xs at ≡ Some x → slice_get (set xs i new) at ≡ Some y → P (f x) (f y)
  place_set P xs i at old new same value holds x y was is =
      let x_is : old ≡ x = value ∙ get_or_from_slice_get xs i x old (ap (λ (k : ℕ). slice_get xs k) same ∙ was) in
      let y_is : new ≡ y = at_set xs i new y (ap (λ (k : ℕ). slice_get (set xs i new) k) same ∙ is) in
      subst (λ (u : X). P (f u) (f y)) x_is (subst (λ (v : X). P (f old) (f v)) y_is holds)

  -- lists that are equal at a place are so when mapped
  pub map_same : (xs ys : List X) (i : ℕ) → slice_get xs i ≡ slice_get ys i → slice_get (map f xs) i ≡ slice_get (map f ys) i
  map_same [] [] i e = refl
  map_same [] (y ∷ ys) zero e = absurd (cc)
  map_same [] (y ∷ ys) (suc i) e = map_same [] ys i e
  map_same (x ∷ xs) [] zero e = absurd (cc)
  map_same (x ∷ xs) [] (suc i) e = map_same xs [] i e
  map_same (x ∷ xs) (y ∷ ys) zero e = let same : x ≡ y = cc in ap (λ (z : X). Some (f z)) same
  map_same (x ∷ xs) (y ∷ ys) (suc i) e = map_same xs ys i e

-- ---- rooms

place_at : (n : ℕ) → n < 4 → place_of (pass_at n) ≡ n
place_at zero lt = refl
place_at (suc zero) lt = refl
place_at (suc (suc zero)) lt = refl
place_at (suc (suc (suc zero))) lt = refl
place_at (suc (suc (suc (suc n)))) lt = absurd (omega arith)

-- a room is told by its function and its pass
pub same_room : (m r : ℕ) → function_of m ≡ function_of r → pass_of m ≡ pass_of r → m ≡ r
same_room m r f p =
    let e : m % 4 ≡ r % 4 = sym (place_at (m % 4) (omega arith)) ∙ (ap place_of p ∙ place_at (r % 4) (omega arith)) in
    omega arith

-- the seats of the other passes are as they were
pub words_other : {T1 T2 T3 T4 : Type 0} (p q : Which) (s t : Four T1 T2 T3 T4) → (q ≡ p → ⊥) → OthersStay p s t → words_of t q ≡ words_of s q
words_other Constants Constants s t other e = absurd (other refl)
words_other {T1} {T2} {T3} {T4} Constants Expressions s t other e = ap (λ (u : Four T1 T2 T3 T4). u.expressions.words) e
words_other {T1} {T2} {T3} {T4} Constants Allocation s t other e = ap (λ (u : Four T1 T2 T3 T4). u.allocation.words) e
words_other {T1} {T2} {T3} {T4} Constants Order s t other e = ap (λ (u : Four T1 T2 T3 T4). u.order.words) e
words_other {T1} {T2} {T3} {T4} Expressions Constants s t other e = ap (λ (u : Four T1 T2 T3 T4). u.constants.words) e
words_other Expressions Expressions s t other e = absurd (other refl)
words_other {T1} {T2} {T3} {T4} Expressions Allocation s t other e = ap (λ (u : Four T1 T2 T3 T4). u.allocation.words) e
words_other {T1} {T2} {T3} {T4} Expressions Order s t other e = ap (λ (u : Four T1 T2 T3 T4). u.order.words) e
words_other {T1} {T2} {T3} {T4} Allocation Constants s t other e = ap (λ (u : Four T1 T2 T3 T4). u.constants.words) e
words_other {T1} {T2} {T3} {T4} Allocation Expressions s t other e = ap (λ (u : Four T1 T2 T3 T4). u.expressions.words) e
words_other Allocation Allocation s t other e = absurd (other refl)
words_other {T1} {T2} {T3} {T4} Allocation Order s t other e = ap (λ (u : Four T1 T2 T3 T4). u.order.words) e
words_other {T1} {T2} {T3} {T4} Order Constants s t other e = ap (λ (u : Four T1 T2 T3 T4). u.constants.words) e
words_other {T1} {T2} {T3} {T4} Order Expressions s t other e = ap (λ (u : Four T1 T2 T3 T4). u.expressions.words) e
words_other {T1} {T2} {T3} {T4} Order Allocation s t other e = ap (λ (u : Four T1 T2 T3 T4). u.allocation.words) e
words_other Order Order s t other e = absurd (other refl)
