-- Lists that changed at one place.
use Rattle.std.specs.Prelude.{◌≡◌, ℕ, List, Some, length, slice_get, slice_set}

-- the element at this place alone changed, and so
pub record ChangedAt {X : Type 0} (Change : X → X → Type 0) (place : ℕ) (old new : List X) : Type 0 where
  pub before : X
  pub after : X
  pub there : slice_get old place ≡ Some before
  pub new_is : new ≡ slice_set old place after
  pub change : Change before after

-- each element changed so
pub record AllChanged {X : Type 0} (Change : X → X → Type 0) (old new : List X) : Type 0 where
  pub count : length new ≡ length old
  pub each : (k : ℕ) (x y : X) → slice_get old k ≡ Some x → slice_get new k ≡ Some y → Change x y
