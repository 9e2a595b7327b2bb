-- The rows of a certificate: entries at marked nodes alone.
use Rattle.std.specs.Prelude.{◌≡◌, ℕ, ◌<◌, List, [], ◌∷◌, length, All, nat_eq, if◌then◌else◌}
use Rattle.rtl_passes.specs.Instruction.{Instruction}
use Rattle.rtl_passes_marks.specs.declared.row.NodeRow.{NodeRow}
use Rattle.rtl_passes_marks.specs.Ranked.{RiseFrom}
use Rattle.rtl_passes_marks.specs.Marks.{IsMarked}

abbrev pub place_of : {A : Type 0} → NodeRow A → ℕ
place_of row = row.node

-- the entries of a node's row, none where it has no row
abbrev pub entries_at : {A : Type 0} → List (NodeRow A) → ℕ → List A
entries_at [] n = []
entries_at (row ∷ rows) n = if nat_eq row.node n then row.entries else entries_at rows n

-- a row for a marked node, of entries in order, and not empty
pub record IsRow {A : Type 0} (InOrder : List A → Type 0) (entry : ℕ) (nodes : List Instruction) (row : NodeRow A) : Type 0 where
  pub within : row.node < length nodes
  pub marked : IsMarked entry nodes row.node
  pub some : ¬ (row.entries ≡ [])
  pub in_order : InOrder row.entries

-- such rows, by rising nodes
pub record AreRows {A : Type 0} (InOrder : List A → Type 0) (entry : ℕ) (nodes : List Instruction) (rows : List (NodeRow A)) : Type 0 where
  pub each : All (IsRow InOrder entry nodes) rows
  pub rising : RiseFrom place_of 0 rows
