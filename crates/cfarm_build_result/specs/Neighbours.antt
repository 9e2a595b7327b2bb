-- Neighbours in a list.
use Rattle.std.specs.Prelude.{◌≡◌, ℕ, suc, List, Some, slice_get}

-- so it is of each two neighbours
abbrev pub EachTwo : {A : Type 0} → (A → A → Type 0) → List A → Type 0
EachTwo {A} Are xs = (k : ℕ) (x y : A) → slice_get xs k ≡ Some x → slice_get xs (suc k) ≡ Some y → Are x y
