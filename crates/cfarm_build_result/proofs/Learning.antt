-- What stands at a place of a list.
use Rattle.std.proofs.Common.{◌≡◌, ℕ, zero, suc, ◌<◌, List, map, length, get_or, [], ◌∷◌, Some, sym, ap, subst, ◌∙◌, arith}
use Rattle.std.specs.Prelude.{slice_get}
use Rattle.std.specs.List.{AllByRecursion}
use Rattle.std.proofs.lemmas.Option.{slice_get-get_or}

pub at_place : {S : Type 0} (seats : List S) (n : ℕ) (s : S) → n < length seats → s ≡ get_or seats n s → slice_get seats n ≡ Some s
at_place seats n s within is = slice_get-get_or seats n s within ∙ ap (λ t. Some t) (sym is)

pub all_at : {S : Type 0} (P : S → Type 0) (xs : List S) (i : ℕ) (x : S) → AllByRecursion P xs → i < length xs → x ≡ get_or xs i x → P x
all_at P [] i x all below is = absurd (omega (arith, below))
all_at P (y ∷ ys) zero x all below is = subst P (sym is) all.0
all_at P (y ∷ ys) (suc i) x all below is = all_at P ys i x all.1 (omega (arith, below)) is

pub all_mapped : {S T : Type 0} (f : S → T) (P : T → Type 0) (xs : List S) → AllByRecursion (λ x. P (f x)) xs → AllByRecursion P (map f xs)
all_mapped f P [] all = tt
all_mapped f P (x ∷ xs) all = (all.0, all_mapped f P xs all.1)
