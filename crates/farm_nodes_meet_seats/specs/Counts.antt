-- How many numbers are so.
use Rattle.std.specs.Prelude.{◌≡◌, ℕ, zero, suc, ◌+◌, ◌<◌, ◌↔◌, Bool, true, cond}

-- how many numbers below n are told
abbrev pub count_told : ℕ → (ℕ → Bool) → ℕ
count_told zero told = 0
count_told (suc n) told = count_told n told + cond (told n) 1 0

-- exactly so many numbers below n are so
pub record IsCount (Is : ℕ → Type 0) (n count : ℕ) : Type 0 where
  pub told : ℕ → Bool
  pub number : count ≡ count_told n told
  pub which : (k : ℕ) → k < n → (told k ≡ true) ↔ Is k
