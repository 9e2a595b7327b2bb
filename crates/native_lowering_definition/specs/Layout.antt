-- Where the blocks of a function stand, and what is known before each.
use Rattle.std.specs.Prelude.{ℕ, zero, suc, ◌+◌, List, [], ◌∷◌, length}
use Rattle.lang_base.specs.declared.program.Program.{Program}
use Rattle.linear_language.specs.declared.instruction.Instruction.{Instruction}
use Rattle.linear_language.specs.Function.{FunctionData}
use Rattle.native_lowering_definition.specs.Blocks.{opening}
use Rattle.native_lowering_definition.specs.Facts.{Facts, no_facts, after}
use Rattle.native_lowering_definition.specs.Frames.{frame_of}
use Rattle.native_lowering_definition.specs.Lowering.{known_at, blocks, around_of}
use Rattle.native_lowering_definition.specs.Operating.{Block}

-- the place of block n, where the blocks stand one behind the other
abbrev pub start : List Block → ℕ → ℕ
start bs zero = 0
start [] (suc n) = 0
start (b ∷ bs) (suc n) = length b + start bs n

-- what is known at instruction n, where this is known before the first
abbrev pub facts_at : List Instruction → Facts → List Instruction → ℕ → Facts
facts_at code facts [] n = facts
facts_at code facts (i ∷ is) zero = known_at code facts i
facts_at code facts (i ∷ is) (suc n) = facts_at code (after i (known_at code facts i)) is n

-- the same, in a function
abbrev pub facts_in : FunctionData → ℕ → Facts
facts_in f n = facts_at f.code no_facts f.code n

-- the place of the block of instruction n in the code of a function
abbrev pub place_in : Program FunctionData → FunctionData → ℕ → ℕ
place_in p f n = length (opening (frame_of f) f.parameters) + start (blocks (around_of p f) no_facts f.code) n
