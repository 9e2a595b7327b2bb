-- Blocks behind one another: what is written, with the blocks of the rest behind it, is the whole.
use Rattle.std.proofs.Common.{◌≡◌, ℕ, zero, suc, ◌+◌, ◌<◌, ◌≤◌, List, [], ◌∷◌, ◌++◌, length, take, drop, get_or, sym, ap, ◌∙◌, arith}
use Rattle.std.specs.Prelude.{map}
use Rattle.std.specs.List.{AllByRecursion}
use Rattle.std.proofs.lemmas.List.{append_assoc, append-nil, at_drop_more, at_drop_all, take_more, map_push}
use Rattle.linear_language.specs.declared.instruction.Instruction.{Instruction}
use Rattle.native_lowering_definition.specs.Blocks.{Around, block}
use Rattle.native_lowering_definition.specs.Facts.{Facts, after}
use Rattle.native_lowering_definition.specs.Lowering.{joined, blocks, known_at}
use Rattle.native_lowering_definition.specs.Operating.{Block}

-- one more piece is written
pub more : (old now next piece rest before all : Block) → now ++ before ≡ old ++ all → before ≡ piece ++ rest → next ≡ now ++ piece → next ++ rest ≡ old ++ all
more old now next piece rest before all so is written =
    ap (λ b. b ++ rest) written ∙ append_assoc now piece rest ∙ ap (λ b. now ++ b) (sym is) ∙ so

-- nothing is left
pub done : (old now rest all : Block) → now ++ rest ≡ old ++ all → rest ≡ [] → now ≡ old ++ all
done old now rest all so none = sym (append-nil now) ∙ ap (λ b. now ++ b) (sym none) ∙ so

-- the blocks of what is left: the first, and those behind it
pub blocks_next : (a : Around) (facts : Facts) (is : List Instruction) (n : ℕ) (i : Instruction) → n < length is → i ≡ get_or is n i
    → joined (blocks a facts (drop n is)) ≡ block a (known_at a.code facts i) i ++ joined (blocks a (after i (known_at a.code facts i)) (drop (n + 1) is))
blocks_next a facts is n i below here =
    at_drop_more (λ rest. joined (blocks a facts rest)) is n i below
    ∙ ap (λ x. block a (known_at a.code facts x) x ++ joined (blocks a (after x (known_at a.code facts x)) (drop (n + 1) is))) (sym here)

-- behind the last there are none
pub blocks_end : (a : Around) (facts : Facts) (is : List Instruction) (n : ℕ) → length is ≤ n → joined (blocks a facts (drop n is)) ≡ []
blocks_end a facts is n all = at_drop_all (λ rest. joined (blocks a facts rest)) is n all

-- what holds of each holds of the item at a place
pub all_at : {A : Type 0} (P : A → Type 0) (xs : List A) (n : ℕ) (d : A) → AllByRecursion P xs → n < length xs → P (get_or xs n d)
all_at P [] n d all below = absurd (omega (arith, below))
all_at P (x ∷ xs) zero d all below = all.0
all_at P (x ∷ xs) (suc n) d all below = all_at P xs n d all.1 (omega (arith, below))

-- one more item is mapped
pub map_more : {X Y : Type 0} (f : X → Y) (xs : List X) (i : ℕ) (d : X) → i < length xs → map f (take i xs) ++ f (get_or xs i d) ∷ [] ≡ map f (take (i + 1) xs)
map_more f xs i d below = sym (ap (map f) (take_more xs i d below) ∙ map_push f (take i xs) (get_or xs i d))
