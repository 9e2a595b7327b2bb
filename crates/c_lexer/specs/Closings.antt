-- Where a comment is closed.
use Rattle.std.specs.Prelude.{◌≡◌, ℕ, ◌+◌, ◌<◌, ◌≤◌, List, length, slice_index}

-- `*/` stands here
abbrev pub IsClose : List ℕ → ℕ → Type 0
IsClose text k = (slice_index text k ≡ 42) × (slice_index text (k + 1) ≡ 47)

abbrev pub NoClose : List ℕ → ℕ → Type 0
NoClose text n = (k : ℕ) → k < n → IsClose text k → ⊥

pub record IsFirstClose (text : List ℕ) (n : ℕ) : Type 0 where
  pub space : n + 2 ≤ length text
  pub closes : IsClose text n
  pub first : NoClose text n
