-- What turns leave, one after another.
use Rattle.std.specs.Prelude.{◌≡◌, ℕ, zero, suc, ◌+◌}

-- so many turns may leave y of x
abbrev pub After : {X : Type 0} → (X → X → Type 0) → ℕ → X → X → Type 0
After turned zero x y = y ≡ x
After {X} turned (suc n) x y = (z : X) × After turned n x z × turned z y

-- some of the turns that were left may leave y of x, and these are left then
pub record Goes {X : Type 0} (turned : X → X → Type 0) (is_fit : X → Type 0) (x : X) (left : ℕ) (y : X) (rest : ℕ) : Type 0 where
  pub fit : is_fit x → is_fit y
  pub taken : ℕ
  pub counted : taken + rest ≡ left
  pub after : After turned taken x y
