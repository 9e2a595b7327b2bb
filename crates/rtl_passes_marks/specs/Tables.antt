-- Feeders of all nodes, as one walk over the instructions tells them.
use Rattle.std.specs.Prelude.{ℕ, suc, List, [], ◌∷◌, length, Option, None, Some, replicate, nat_eq, nat_lt, slice_get, slice_set, if◌then◌else◌}
use Rattle.rtl_passes.specs.Instruction.{Instruction}
use Rattle.rtl_passes_marks.specs.declared.marks.Came.{Came}
use Rattle.rtl_passes_marks.specs.declared.marks.Came.TheVariants.{Never, Once, Often}
use Rattle.rtl_passes_marks.specs.Edges.{edges_of}

-- one more edge, from this node
abbrev pub once_more : Came → ℕ → Came
once_more Never n = Once n
once_more _ n = Often

abbrev pub noted_at : Option Came → ℕ → ℕ → List Came → List Came
noted_at None n t table = table
noted_at (Some came) n t table = slice_set table t (once_more came n)

-- an edge from n to t
abbrev pub noted : ℕ → ℕ → List Came → List Came
noted n t table = noted_at (slice_get table t) n t table

abbrev pub all_noted : ℕ → List ℕ → List Came → List Came
all_noted n [] table = table
all_noted n (t ∷ ts) table = all_noted n ts (noted n t table)

-- the edges of these instructions, the first of which has this number
abbrev pub walked : ℕ → List Instruction → List Came → List Came
walked n [] table = table
walked n (i ∷ is) table = walked (suc n) is (all_noted n (edges_of i) table)

-- what feeds s where its edges came so
abbrev pub lower_of : ℕ → Came → Option ℕ
lower_of s (Once n) = if nat_lt n s then Some n else None
lower_of s _ = None

abbrev pub feeder_by : ℕ → ℕ → Came → Option ℕ
feeder_by entry s came = if nat_eq s entry then None else lower_of s came

-- of nodes from this number on
abbrev pub feeders_from : ℕ → ℕ → List Came → List (Option ℕ)
feeders_from entry s [] = []
feeders_from entry s (came ∷ table) = feeder_by entry s came ∷ feeders_from entry (suc s) table
