-- What stands at a place of a list.
use Rattle.std.proofs.Common.{◌≡◌, ℕ, zero, suc, ◌<◌, List, [], ◌∷◌, ◌++◌, length, take, get_or, Some, refl, ap, arith}
use Rattle.std.specs.Prelude.{slice_get}

some_is : {A : Type 0} (x y : A) → Some x ≡ Some y → x ≡ y
some_is x y e = cc

-- what stands at a place
pub got : {A : Type 0} (xs : List A) (i : ℕ) (x d : A) → slice_get xs i ≡ Some x → (i < length xs) × (get_or xs i d ≡ x)
got [] zero x d e = absurd cc
got [] (suc i) x d e = absurd cc
got (y ∷ xs) zero x d e = (omega arith, some_is y x e)
got (y ∷ xs) (suc i) x d e = let rest = got xs i x d e in (omega (arith, rest.0), rest.1)

-- what was written over all places is what stands there
pub written : {A : Type 0} (new rest : List A) (n : ℕ) → length new ≡ n → take n (new ++ rest) ≡ new
written [] rest zero e = refl
written [] rest (suc n) e = absurd (omega (arith, e))
written (x ∷ new) rest zero e = absurd (omega (arith, e))
written (x ∷ new) rest (suc n) e = ap (λ l. x ∷ l) (written new rest n (omega (arith, e)))
