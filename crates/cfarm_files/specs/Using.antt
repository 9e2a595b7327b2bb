-- What is known of what was done with disks.
use Rattle.std.specs.Prelude.{◌≡◌, ℕ, List, [], ◌∷◌, ◌++◌, Option, None, Some, Result, MatchResult}

-- a pair of disks was opened over a new file and an old one, or closed as it was by then
pub data DiskUse (D : Type 0) : Type 0 where
  Opened : (path old_path : List ℕ) → D → DiskUse D
  Closed : (path old_path : List ℕ) → D → DiskUse D

module _ {D : Type 0} where
  -- what is known grows by this, in this order
  abbrev pub Uses : Option (List (DiskUse D)) → Option (List (DiskUse D)) → List (DiskUse D) → Type 0
  Uses None now uses = Unit {0}
  Uses (Some before) now uses = now ≡ Some (before ++ uses)

  -- no disk is opened or closed
  abbrev pub UsesNone : Option (List (DiskUse D)) → Option (List (DiskUse D)) → Type 0
  UsesNone before now = Uses before now []

  -- the pair that is given was opened, and none where none is
  abbrev pub Opens : {E : Type 0} → (before now : Option (List (DiskUse D))) → (path old_path : List ℕ) → Result D E → Type 0
  Opens before now path old_path result = MatchResult result (λ disk. Uses before now (Opened path old_path disk ∷ [])) (λ fault. UsesNone before now)

  -- the pair was closed
  abbrev pub Closes : (before now : Option (List (DiskUse D))) → (path old_path : List ℕ) → D → Type 0
  Closes before now path old_path disk = Uses before now (Closed path old_path disk ∷ [])
