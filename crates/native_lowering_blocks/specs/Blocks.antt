-- Whole calls and branches.
use Rattle.std.specs.Prelude.{ℕ, List, ◌∷◌, ◌++◌, Option}
use Rattle.locations.specs.declared.location.Location.{Location}
use Rattle.machine.specs.declared.test.Test.{Test}
use Rattle.x86_syntax.specs.declared.instruction.Instruction.TheVariants.{Call}
use Rattle.native_lowering_definition.specs.Blocks.{Around, gets, branches}
use Rattle.native_lowering_definition.specs.Facts.{Facts, answered}
use Rattle.native_lowering_definition.specs.Frames.{Frame}
use Rattle.native_lowering_definition.specs.Moving.{passes}
use Rattle.native_lowering_definition.specs.Operating.{Block}

-- the arguments are passed, the function is called, and its result is got
abbrev pub called : Frame → ℕ → List Location → Option Location → Block
called frame function arguments target = passes frame arguments ++ Call function ∷ gets frame target

-- a branch before which this is known
abbrev pub branch : Around → Facts → Test → ℕ → Block
branch around facts test label = branches around facts test.condition test.arguments label (answered test facts)
