-- Equations in order, by numbers.
use Rattle.std.specs.Prelude.{ℕ, suc, ◌<◌, ◌≤◌, List, [], ◌∷◌, length, get_or}
use Rattle.alloc_check_fill.specs.Equation.{Equation}
use Rattle.alloc_check_fill.specs.Ranks.{rank}

-- each rank is above those before it, and none is lower than this
abbrev pub RiseFrom : ℕ → List Equation → Type 0
RiseFrom lower [] = Unit {0}
RiseFrom lower (e ∷ es) = (lower ≤ rank e) × RiseFrom (suc (rank e)) es

-- so many at the front have lower ranks than this, and those behind them have not
abbrev pub AreLower : List Equation → ℕ → ℕ → Type 0
AreLower es count least = (k : ℕ) (d : Equation) → k < count → rank (get_or es k d) < least

abbrev pub AreNoLower : List Equation → ℕ → ℕ → Type 0
AreNoLower es count least = (k : ℕ) (d : Equation) → count ≤ k → k < length es → least ≤ rank (get_or es k d)
