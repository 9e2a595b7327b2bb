-- What is said of the nodes of a farm, node by node: of what was given of each, and what was made of it.
use Rattle.std.specs.Prelude.{◌≡◌, ℕ, ◌<◌, List, length, Some, slice_get}

module _ {A B : Type 0} (Is : ℕ → A → B → Type 0) (given : List A) where
  -- so it is of the first nodes, so many
  pub record AreMade (so_far : ℕ) (made : List B) : Type 0 where
    pub count : length made ≡ so_far
    pub each : (i : ℕ) (x : A) (y : B) → slice_get given i ≡ Some x → slice_get made i ≡ Some y → Is i x y

  -- it can be made of each of them
  abbrev pub AllMade : ℕ → Type 0
  AllMade so_far = (i : ℕ) (x : A) → i < so_far → slice_get given i ≡ Some x → (y : B) × Is i x y

-- it is so of this node
abbrev pub AtNode : {A : Type 0} → (ℕ → A → Type 0) → ℕ → List A → Type 0
AtNode {A} Is node given = (x : A) × (slice_get given node ≡ Some x) × Is node x

-- and of each in front of it
abbrev pub InFront : {A : Type 0} → (A → Type 0) → ℕ → List A → Type 0
InFront {A} Is node given = (i : ℕ) (x : A) → i < node → slice_get given i ≡ Some x → Is x
