-- A node that is there and marked.
use Rattle.std.specs.Prelude.{ℕ, ◌<◌, List, length}
use Rattle.rtl_passes.specs.Instruction.{Instruction}
use Rattle.rtl_passes_marks.specs.Marks.{IsMarked}

pub record IsMarkedWithin (entry : ℕ) (nodes : List Instruction) (node : ℕ) : Type 0 where
  pub within : node < length nodes
  pub marked : IsMarked entry nodes node
