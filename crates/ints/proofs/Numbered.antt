-- A list whose elements are numbered upward, as codes number a list of operators.
use Rattle.std.proofs.Common.{◌≡◌, ℕ, zero, suc, ◌+◌, List, [], ◌∷◌, Some, slice_get, add-zero, arith}

-- the first element has this number, and each next one the next number
abbrev pub IsNumbered : {A : Type 0} → (A → ℕ) → ℕ → List A → Type 0
IsNumbered number_of n [] = Unit {0}
IsNumbered number_of n (x ∷ xs) = (number_of x ≡ n) × IsNumbered number_of (suc n) xs

-- so an element's number gives its place
pub IsNumbered-slice_get : {A : Type 0} (number_of : A → ℕ) (n : ℕ) (xs : List A) (place : ℕ) (x : A) → IsNumbered number_of n xs → slice_get xs place ≡ Some x → n + place ≡ number_of x
IsNumbered-slice_get number_of n [] place x numbered e = cc
IsNumbered-slice_get number_of n (y ∷ ys) zero x numbered e = cc (numbered.0, add-zero n)
IsNumbered-slice_get number_of n (y ∷ ys) (suc place) x numbered e =
    omega (arith, IsNumbered-slice_get number_of (suc n) ys place x numbered.1 e)
