-- The blocks that read and write cells of globals. An index that is not known to be in range is tested; of a missing global the run stops.
use Rattle.std.specs.Prelude.{ℕ, [], ◌∷◌, Option, Some, None, if◌then◌else◌, nat_lt}
use Rattle.x86_syntax.specs.declared.condition.Condition.TheVariants.{AboveOrEqual}
use Rattle.x86_syntax.specs.declared.instruction.Instruction.TheVariants.{CompareWith, Load, LoadAt, Store, StoreAt, Stop, StopIf}
use Rattle.native_lowering_definition.specs.Locations.{register_of}
use Rattle.native_lowering_definition.specs.Operating.{Block}

abbrev pub loads_tested : ℕ → ℕ → ℕ → ℕ → Block
loads_tested target global index cells =
    CompareWith (register_of index) cells ∷ StopIf AboveOrEqual ∷ Load (register_of target) global (register_of index) ∷ []

-- a global with so many cells, if it is there, and an index that may be known
abbrev pub loads : ℕ → ℕ → ℕ → Option ℕ → Option ℕ → Block
loads target global index None w = Stop ∷ []
loads target global index (Some cells) None = loads_tested target global index cells
loads target global index (Some cells) (Some w) =
    if nat_lt w cells then LoadAt (register_of target) global w ∷ [] else loads_tested target global index cells

abbrev pub stores_tested : ℕ → ℕ → ℕ → ℕ → Block
stores_tested global index source cells =
    CompareWith (register_of index) cells ∷ StopIf AboveOrEqual ∷ Store global (register_of index) (register_of source) ∷ []

abbrev pub stores : ℕ → ℕ → ℕ → Option ℕ → Option ℕ → Block
stores global index source None w = Stop ∷ []
stores global index source (Some cells) None = stores_tested global index source cells
stores global index source (Some cells) (Some w) =
    if nat_lt w cells then StoreAt global w (register_of source) ∷ [] else stores_tested global index source cells
