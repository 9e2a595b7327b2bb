-- Rows of registers and their own slots, at marked nodes.
use Rattle.std.specs.Prelude.{ℕ, suc, List, [], ◌∷◌, ◌++◌, Option, Some, None, map, slice_get}
use Rattle.rtl_passes_marks.specs.declared.row.NodeRow.{NodeRow}
use Rattle.alloc_check_rules.specs.declared.equation.Equation.{Equation}
use Rattle.alloc_check.specs.Slots.{own}

-- a row for the node, if it is marked and there are registers
abbrev pub row_at : Option (Option ℕ) → ℕ → List ℕ → List (NodeRow Equation)
row_at (Some None) n (r ∷ rs) = record { node = n; entries = map own (r ∷ rs) } ∷ []
row_at _ n rs = []

-- of the lists of nodes from this number on
abbrev pub rows_from : List (Option ℕ) → ℕ → List (List ℕ) → List (NodeRow Equation)
rows_from feeders first [] = []
rows_from feeders first (rs ∷ lists) = row_at (slice_get feeders first) first rs ++ rows_from feeders (suc first) lists
