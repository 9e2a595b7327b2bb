-- Texts of items, each with its number.
use Rattle.std.specs.Prelude.{ℕ, ◌+◌, List, [], ◌∷◌, ◌++◌}

-- the texts of items that are numbered from here on
abbrev pub numbered_text : {A : Type 0} → (ℕ → A → List ℕ) → ℕ → List A → List ℕ
numbered_text text n [] = []
numbered_text text n (x ∷ xs) = text n x ++ numbered_text text (n + 1) xs
