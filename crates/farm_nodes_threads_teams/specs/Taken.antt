-- What at most so many turns leave.
use Rattle.std.specs.Prelude.{ℕ, ◌≤◌}
use Rattle.farm_nodes_threads_pace.specs.After.{After}

-- at most so many turns may leave y of x, and it may be asked for more
pub record HasTaken {X : Type 0} (turned : X → X → Type 0) (is_fit : X → Type 0) (most : ℕ) (x y : X) : Type 0 where
  pub fit : is_fit x → is_fit y
  pub taken : ℕ
  pub counted : taken ≤ most
  pub after : After turned taken x y
