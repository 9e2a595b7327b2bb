-- The stack's cells are kept in the other order: the top comes last.
use Rattle.std.proofs.Common.{◌≡◌, ℕ, zero, suc, ◌+◌, ◌<◌, Bool, true, List, [], ◌∷◌, ◌++◌, length, reverse, Option, Some, None, refl, sym, ap, ◌∙◌, arith}
use Rattle.std.specs.Prelude.{slice_set}
use Rattle.std.specs.Option.{is_some, option_map}
use Rattle.std.proofs.lemmas.Bool.{false≢true}
use Rattle.std.proofs.lemmas.List.{reverse-append, length-reverse, set-append_left}
use Rattle.std.proofs.Math.Seq.{set-append_seam}
use Rattle.x86_state.specs.declared.cell.Cell.{Cell}
use Rattle.x86_state.specs.declared.cell.Cell.TheVariants.{Word}
use Rattle.x86_state.specs.Cells.{word_at, kept, shrunk, Becomes}

-- a cell set from the top is one set from the end
pub set-reverse : {A : Type 0} (xs : List A) (k j : ℕ) (v : A) → j + suc k ≡ length xs → slice_set (reverse xs) k v ≡ reverse (slice_set xs j v)
set-reverse [] k j v e = absurd (omega arith)
set-reverse (x ∷ xs) k zero v e =
    let at : k ≡ length (reverse xs) = omega (arith, length-reverse xs) in
    rw (reverse-append (x ∷ []) xs, reverse-append (v ∷ []) xs, at) (set-append_seam (reverse xs) x [] v)
set-reverse (x ∷ xs) k (suc j) v e =
    let within : k < length (reverse xs) = omega (arith, length-reverse xs) in
    rw (reverse-append (x ∷ []) xs, reverse-append (x ∷ []) (slice_set xs j v)) (
    set-append_left (reverse xs) (x ∷ []) k v within ∙ ap (λ ys. ys ++ x ∷ []) (set-reverse xs k j v (omega arith)))

-- a word stands among the cells
pub word_within : (cells : List Cell) (k : ℕ) → is_some (word_at cells k) ≡ true → k < length cells
word_within [] k there = absurd (false≢true there)
word_within (c ∷ cells) zero there = omega arith
word_within (c ∷ cells) (suc k) there = let h = word_within cells k there in omega arith

becomes_some : {A B : Type 0} (o : Option B) (wanted after : A) → is_some o ≡ true → after ≡ wanted → (answer : Bool) → answer ≡ true → Becomes (option_map (λ b. wanted) o) answer after
becomes_some None wanted after there e answer told = absurd (false≢true there)
becomes_some (Some b) wanted after there e answer told = (told, e)

-- the word of a cell that holds one is replaced
pub keeps_there : (cells : List Cell) (k j w : ℕ) (answer : Bool) → (k < length cells → j + suc k ≡ length cells) → is_some (word_at (reverse cells) k) ≡ true → answer ≡ true
    → Becomes (kept k w (reverse cells)) answer (reverse (slice_set cells j (Word w)))
keeps_there cells k j w answer far there told =
    let within : k < length (reverse cells) = word_within (reverse cells) k there in
    let few = length-reverse cells in
    becomes_some (word_at (reverse cells) k) _ _ there (sym (set-reverse cells k j (Word w) (far (omega arith)))) answer told

-- a word less is to be taken off
pub shrunk_on : (n m w : ℕ) (cells after : List Cell) → n ≡ suc m → cells ≡ Word w ∷ after → shrunk n cells ≡ shrunk m after
shrunk_on n m w cells after e f = rw (e, f) refl
