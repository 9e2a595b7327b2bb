-- Where the items of lists stand when the lists are joined.
use Rattle.std.proofs.Common.{◌≡◌, ℕ, zero, suc, ◌+◌, List, [], ◌∷◌, ◌++◌, length, Some, refl, ap, ◌∙◌, arith, length-append}
use Rattle.std.specs.Prelude.{slice_get}
use Rattle.x86_syntax.specs.declared.instruction.Instruction.{Instruction}
use Rattle.native_lowering_definition.specs.Lowering.{joined}
use Rattle.native_lowering_definition.specs.Operating.{Block}
use Rattle.native_lowering_definition.specs.Layout.{start}

pub get_left : {A : Type 0} (xs ys : List A) (k : ℕ) (x : A) → slice_get xs k ≡ Some x → slice_get (xs ++ ys) k ≡ Some x
get_left [] ys k x e = cc
get_left (y ∷ xs) ys zero x e = e
get_left (y ∷ xs) ys (suc k) x e = get_left xs ys k x e

pub get_right : {A : Type 0} (xs ys : List A) (k n : ℕ) → n ≡ length xs + k → slice_get (xs ++ ys) n ≡ slice_get ys k
get_right [] ys k n e = let same : n ≡ k = omega arith in ap (slice_get ys) same
get_right (x ∷ xs) ys k zero e = absurd (omega arith)
get_right (x ∷ xs) ys k (suc n) e = get_right xs ys k n (omega arith)

-- instruction j of block n
pub stands : (bs : List Block) (n j k : ℕ) (b : Block) (i : Instruction) → slice_get bs n ≡ Some b → slice_get b j ≡ Some i → k ≡ start bs n + j
    → slice_get (joined bs) k ≡ Some i
stands [] n j k b i at inside e = cc
stands (c ∷ bs) zero j k b i at inside e =
    let same : c ≡ b = cc in
    let here : k ≡ j = omega arith in
    get_left c (joined bs) k i (rw (same, here) inside)
stands (c ∷ bs) (suc n) j k b i at inside e =
    get_right c (joined bs) (start bs n + j) k (omega arith) ∙ stands bs n j (start bs n + j) b i at inside refl

-- the next block stands behind it
pub start_next : (bs : List Block) (n : ℕ) (b : Block) → slice_get bs n ≡ Some b → start bs (suc n) ≡ start bs n + length b
start_next [] n b at = cc
start_next (c ∷ bs) zero b at = let same : c ≡ b = cc in rw same (omega arith)
start_next (c ∷ bs) (suc n) b at = let e = start_next bs n b at in omega arith

-- behind the last block
pub start_end : (bs : List Block) → start bs (length bs) ≡ length (joined bs)
start_end [] = refl
start_end (b ∷ bs) = rw length-append (ap (λ n. length b + n) (start_end bs))
