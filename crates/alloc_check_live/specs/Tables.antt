-- Tables of lists to which numbers are added, and the table of the nodes that name a number.
use Rattle.std.specs.Prelude.{◌≡◌, ℕ, ◌<◌, ◌↔◌, List, [], ◌∷◌, ◌++◌, length, Option, slice_get, slice_set, Contains}
use Rattle.rtl_language.specs.declared.instruction.Instruction.{Instruction}
use Rattle.alloc_check_live.specs.Lists.{registers_at}

-- one more number at the end of the list at a place, if the place is there
abbrev pub added : List (List ℕ) → ℕ → ℕ → List (List ℕ)
added lists place number = slice_set lists place (registers_at lists place ++ number ∷ [])

-- so at each of these places
abbrev pub added_to_each : ℕ → List ℕ → List (List ℕ) → List (List ℕ)
added_to_each number [] lists = lists
added_to_each number (place ∷ places) lists = added_to_each number places (added lists place number)

-- For each number below a count the nodes of which it is one.
pub record IsIndex (of : Option Instruction → List ℕ) (nodes : List Instruction) (count : ℕ) (lists : List (List ℕ)) : Type 0 where
  pub counted : length lists ≡ count
  pub exactly : (number n : ℕ) → Contains (registers_at lists number) n ↔ ((number < count) × Contains (of (slice_get nodes n)) number)

-- these are the nodes that name a number
abbrev pub AreThose : (Option Instruction → List ℕ) → List Instruction → ℕ → List ℕ → Type 0
AreThose of nodes number ns = (n : ℕ) → Contains ns n ↔ Contains (of (slice_get nodes n)) number
