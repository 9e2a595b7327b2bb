-- The lists of nodes: those of rows, and those that are handed on from node to node and wait for their turn.
use Rattle.std.specs.Prelude.{◌≡◌, ℕ, Bool, true, false, ◌||◌, List, [], ◌∷◌, Option, Some, None, nat_eq, slice_get, slice_set, slice_index_or, if◌then◌else◌}
use Rattle.rtl_passes_marks.specs.declared.row.NodeRow.{NodeRow}

abbrev pub entries_in : {A : Type 0} → Option (NodeRow A) → List A
entries_in None = []
entries_in (Some row) = row.entries

-- the entries of the row of this number, none where there is none
abbrev pub entries_by : {A : Type 0} → List (NodeRow A) → ℕ → List A
entries_by rows k = entries_in (slice_get rows k)

-- each row's entries at its node
abbrev pub spread_on : {A : Type 0} → List (NodeRow A) → List (List A) → List (List A)
spread_on [] lists = lists
spread_on (row ∷ rows) lists = spread_on rows (slice_set lists row.node row.entries)

-- whether a node is fed, as these tell
abbrev pub is_fed_by : Option (Option ℕ) → Bool
is_fed_by (Some (Some m)) = true
is_fed_by _ = false

-- what stands at a node: what was handed to it where it is fed, else what is said of it
abbrev pub standing : {A : Type 0} → Option (Option ℕ) → List (List A) → List (List A) → ℕ → List A
standing fed said handed n = if is_fed_by fed then slice_index_or handed n [] else slice_index_or said n []

-- what is left where what stands at a node was taken: what is said stays
abbrev pub left_by : {A : Type 0} → Option (Option ℕ) → ℕ → List (List A) → List (List A)
left_by fed n handed = if is_fed_by fed then slice_set handed n [] else handed

-- whether this node feeds the other
abbrev pub feeds_by : Option (Option ℕ) → ℕ → Bool
feeds_by (Some (Some m)) n = nat_eq m n
feeds_by _ n = false

-- whether it feeds one of these
abbrev pub feeds_one : List (Option ℕ) → ℕ → List ℕ → Bool
feeds_one feeders n [] = false
feeds_one feeders n (t ∷ ts) = feeds_by (slice_get feeders t) n || feeds_one feeders n ts

-- a list handed to a node, if it is fed by this one
abbrev pub handed_to : {A : Type 0} → List (Option ℕ) → ℕ → ℕ → List A → List (List A) → List (List A)
handed_to feeders n t facts lists = if feeds_by (slice_get feeders t) n then slice_set lists t facts else lists

abbrev pub handed_on : {A : Type 0} → List (Option ℕ) → ℕ → List ℕ → List A → List (List A) → List (List A)
handed_on feeders n [] facts lists = lists
handed_on feeders n (t ∷ ts) facts lists = handed_on feeders n ts facts (handed_to feeders n t facts lists)

-- the node is marked, as these tell
abbrev pub IsMarkedBy : List (Option ℕ) → ℕ → Type 0
IsMarkedBy feeders s = slice_get feeders s ≡ Some None
