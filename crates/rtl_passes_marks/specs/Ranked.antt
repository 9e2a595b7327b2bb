-- What is in order, by a rank of each.
use Rattle.std.specs.Prelude.{ℕ, suc, ◌≤◌, List, [], ◌∷◌}

-- each rank is above those before it, and none is lower than this
abbrev pub RiseFrom : {A : Type 0} → (A → ℕ) → ℕ → List A → Type 0
RiseFrom rank lower [] = Unit {0}
RiseFrom rank lower (x ∷ xs) = (lower ≤ rank x) × RiseFrom rank (suc (rank x)) xs
