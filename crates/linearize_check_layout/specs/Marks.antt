-- Nodes marked in a table with one place for each.
use Rattle.std.specs.Prelude.{◌≡◌, ◌↔◌, ℕ, List, Some, Bool, true, slice_get, Contains}

abbrev pub IsMarked : List Bool → ℕ → Type 0
IsMarked marked n = slice_get marked n ≡ Some true

-- the nodes of the list are marked, and no others
pub record AreMarked (marked : List Bool) (nodes : List ℕ) : Type 0 where
  pub exactly : (n : ℕ) → IsMarked marked n ↔ Contains nodes n
