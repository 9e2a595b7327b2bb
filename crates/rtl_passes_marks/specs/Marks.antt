-- Which nodes of a function are marked: what is known at the others can be told from the one node that leads there.
use Rattle.std.specs.Prelude.{◌≡◌, ℕ, ◌<◌, List, [], ◌∷◌, length, Option, Some, None, nat_eq, nat_lt, slice_get, if◌then◌else◌}
use Rattle.rtl_passes.specs.Instruction.{Instruction}
use Rattle.rtl_passes_marks.specs.Edges.{sources}

-- the only one of these nodes, where it is lower than s
abbrev pub only_lower : ℕ → List ℕ → Option ℕ
only_lower s (n ∷ []) = if nat_lt n s then Some n else None
only_lower s _ = None

-- The node that feeds s: the only edge to s comes from it, it is lower, and s is not the entry.
abbrev pub feeder : ℕ → List Instruction → ℕ → Option ℕ
feeder entry nodes s = if nat_eq s entry then None else only_lower s (sources nodes s)

-- Marked is the entry, and where no edge or more than one comes in, or one from a node that is not lower.
abbrev pub IsMarked : ℕ → List Instruction → ℕ → Type 0
IsMarked entry nodes s = feeder entry nodes s ≡ None

-- for each node what feeds it
pub record AreFeeders (entry : ℕ) (nodes : List Instruction) (feeders : List (Option ℕ)) : Type 0 where
  pub count : length feeders ≡ length nodes
  pub each : (s : ℕ) → s < length nodes → slice_get feeders s ≡ Some (feeder entry nodes s)
