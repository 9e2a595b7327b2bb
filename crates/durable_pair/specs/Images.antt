-- What a crash leaves of a pair of disks at one moment, and what that shows.
use Rattle.std.specs.Prelude.{◌≡◌, ◌≢◌, ◌⊎◌, ℕ, List, [], get_or}

-- the bytes of the new disk, and those of the old one
abbrev pub Images : Type 0
Images = List ℕ × List ℕ

-- the bytes of an old disk count no more: their first is not C, with which a journal begins
abbrev pub IsSpent : List ℕ → Type 0
IsSpent bytes = get_or bytes 0 0 ≢ 67

-- The image of the new disk, where the old one counts no more; while that counts, no bytes.
abbrev pub Shows : Images → List ℕ → Type 0
Shows im c = (IsSpent im.1 × (c ≡ im.0)) ⊎ ((IsSpent im.1 → ⊥) × (c ≡ []))

-- each of the two is what its disk may leave
abbrev pub Both : {D : Type 0} → (D → List ℕ → Type 0) → (D → List ℕ → Type 0) → D → Images → Type 0
Both new_may old_may pair im = new_may pair im.0 × old_may pair im.1
