-- The stack: its cells, the top first.
use Rattle.std.specs.Prelude.{◌≡◌, ℕ, zero, suc, Bool, true, false, List, [], ◌∷◌, Option, Some, None, slice_get, slice_set}
use Rattle.std.specs.Option.{option_map}
use Rattle.x86_state.specs.declared.cell.Cell.{Cell}
use Rattle.x86_state.specs.declared.cell.Cell.TheVariants.{Word, Back}

-- the word that a cell holds, if it is there and holds one
abbrev pub word_of : Option Cell → Option ℕ
word_of None = None
word_of (Some (Word w)) = Some w
word_of (Some (Back to)) = None

abbrev pub word_at : List Cell → ℕ → Option ℕ
word_at cells k = word_of (slice_get cells k)

-- the cells where cell k, which held a word, holds this one
abbrev pub kept : ℕ → ℕ → List Cell → Option (List Cell)
kept k w cells = option_map (λ before. slice_set cells k (Word w)) (word_at cells k)

-- the cells without the first n, which held words
abbrev pub shrunk : ℕ → List Cell → Option (List Cell)
shrunk zero cells = Some cells
shrunk (suc n) [] = None
shrunk (suc n) (Word w ∷ cells) = shrunk n cells
shrunk (suc n) (Back to ∷ cells) = None

-- what was taken off the top, and what is left
abbrev pub IsTaken : Option Cell → List Cell → List Cell → Type 0
IsTaken None before after = (before ≡ []) × (after ≡ [])
IsTaken (Some cell) before after = before ≡ cell ∷ after

-- the answer says whether there are such cells, and these are they
abbrev pub Becomes : {A : Type 0} → Option A → Bool → A → Type 0
Becomes None answer after = answer ≡ false
Becomes (Some wanted) answer after = (answer ≡ true) × (after ≡ wanted)
