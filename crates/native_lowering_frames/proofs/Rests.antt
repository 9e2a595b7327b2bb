-- A loop that writes a block for each item: what it has written, with the blocks of the rest behind it, is the whole.
use Rattle.std.proofs.Common.{◌≡◌, ℕ, zero, suc, ◌+◌, ◌<◌, List, [], ◌∷◌, ◌++◌, length, drop, get_or, refl, sym, ap, subst, ◌∙◌, arith}
use Rattle.std.specs.List.{AllByRecursion}
use Rattle.std.proofs.lemmas.List.{append_assoc, append-nil}
use Rattle.native_lowering_definition.specs.Operating.{Block}

-- one more piece is written
pub more : (old now next piece rest before all : Block) → now ++ before ≡ old ++ all → before ≡ piece ++ rest → next ≡ now ++ piece → next ++ rest ≡ old ++ all
more old now next piece rest before all so is written =
    ap (λ b. b ++ rest) written ∙ append_assoc now piece rest ∙ ap (λ b. now ++ b) (sym is) ∙ so

-- nothing is left
pub done : (old now rest all : Block) → now ++ rest ≡ old ++ all → rest ≡ [] → now ≡ old ++ all
done old now rest all so none = sym (append-nil now) ∙ ap (λ b. now ++ b) (sym none) ∙ so

-- what holds of each holds of the item at a place
pub all_at : {A : Type 0} (P : A → Type 0) (xs : List A) (n : ℕ) (d : A) → AllByRecursion P xs → n < length xs → P (get_or xs n d)
all_at P [] n d all below = absurd (omega (arith, below))
all_at P (x ∷ xs) zero d all below = all.0
all_at P (x ∷ xs) (suc n) d all below = all_at P xs n d all.1 (omega (arith, below))
