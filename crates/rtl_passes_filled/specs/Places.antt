-- Where a fact goes among those in order.
use Rattle.std.specs.Prelude.{ℕ, ◌<◌, ◌≤◌, List, length, slice_index_or}

-- the first that has no lower place than this, or the end
pub record IsFirstFrom {A : Type 0} (rank : A → ℕ) (least : ℕ) (facts : List A) (at : ℕ) : Type 0 where
  pub within : at ≤ length facts
  pub lower : (k : ℕ) (d : A) → k < at → rank (slice_index_or facts k d) < least
  pub here : (d : A) → at < length facts → least ≤ rank (slice_index_or facts at d)
