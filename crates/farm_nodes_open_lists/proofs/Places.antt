-- What stands in a list with one element more.
use Rattle.std.proofs.Common.{◌≡◌, ℕ, zero, suc, ◌<◌, List, [], ◌∷◌, ◌++◌, length, Some, refl, arith}
use Rattle.std.specs.Prelude.{slice_get}

pub get_front : {X : Type 0} (xs : List X) (y : X) (f : ℕ) → f < length xs → slice_get (xs ++ y ∷ []) f ≡ slice_get xs f
get_front [] y f low = absurd (omega (arith, low))
get_front (x ∷ xs) y zero low = refl
get_front (x ∷ xs) y (suc f) low = get_front xs y f (omega (arith, low))

pub get_last : {X : Type 0} (xs : List X) (y : X) → slice_get (xs ++ y ∷ []) (length xs) ≡ Some y
get_last [] y = refl
get_last (x ∷ xs) y = get_last xs y
