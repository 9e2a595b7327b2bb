-- What callers need of `found` and of the way back to a mark.
use Rattle.std.proofs.Common.{◌≡◌, ℕ, ◌-◌, cond, List, ◌∷◌, ◌++◌, length, drop, Some, refl, ap, arith}
use Rattle.std.proofs.lemmas.Bool.{false_from_ne_true}
use Rattle.std.proofs.lemmas.List.{length-append, drop_at}
use Rattle.std.proofs.lemmas.Slice.Eq.{bytes_eq-Decides}
use Rattle.c_checker_scopes.specs.Bound.{Bound, found}

-- a name means what it was bound to last
pub found-same : {T : Type 0} (b : Bound T) (bs : List (Bound T)) → found b.name (b ∷ bs) ≡ Some b
found-same b bs = ap (λ t. cond t (Some b) (found b.name bs)) ((bytes_eq-Decides b.name b.name).1 refl)

-- and any other name means what it meant
pub found-other : {T : Type 0} (name : List ℕ) (b : Bound T) (bs : List (Bound T)) → (name ≡ b.name → ⊥) → found name (b ∷ bs) ≡ found name bs
found-other name b bs differ =
    ap (λ t. cond t (Some b) (found name bs)) (false_from_ne_true _ (λ e. differ ((bytes_eq-Decides name b.name).0 e)))

-- what was bound since a mark goes, and the rest stays
pub drop-since : {A : Type 0} (added old : List A) → drop (length (added ++ old) - length old) (added ++ old) ≡ old
drop-since added old = drop_at added old _ (omega (arith, length-append added old))
