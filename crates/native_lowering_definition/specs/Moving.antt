-- The blocks of moves: between locations, and of arguments, parameters and results. A slot is a cell of the frame.
use Rattle.std.specs.Prelude.{ℕ, ◌+◌, List, [], ◌∷◌, ◌++◌, drop}
use Rattle.locations.specs.declared.location.Location.{Location}
use Rattle.locations.specs.declared.location.Location.TheVariants.{InRegister, InSlot}
use Rattle.x86_syntax.specs.declared.instruction.Instruction.TheVariants.{Copy, Take, Keep}
use Rattle.x86_syntax.specs.declared.register.Register.{Register}
use Rattle.x86_syntax.specs.declared.register.Register.TheVariants.{Eax}
use Rattle.native_lowering_definition.specs.Frames.{Frame, slot_cell, argument_cell}
use Rattle.native_lowering_definition.specs.Locations.{register_of, passing}
use Rattle.native_lowering_definition.specs.Operating.{Block}

-- from a location to a register
abbrev pub fetches : Frame → Register → Location → Block
fetches frame target (InRegister r) = Copy target (register_of r) ∷ []
fetches frame target (InSlot s) = Take target (slot_cell frame s) ∷ []

-- from a register to a location
abbrev pub puts : Frame → Location → Register → Block
puts frame (InRegister r) source = Copy (register_of r) source ∷ []
puts frame (InSlot s) source = Keep (slot_cell frame s) source ∷ []

-- from a location to a cell
abbrev pub keeps : Frame → ℕ → Location → Block
keeps frame cell (InRegister r) = Keep cell (register_of r) ∷ []
keeps frame cell (InSlot s) = Take Eax (slot_cell frame s) ∷ Keep cell Eax ∷ []

-- from a cell to a location
abbrev pub takes : Frame → Location → ℕ → Block
takes frame (InRegister r) cell = Take (register_of r) cell ∷ []
takes frame (InSlot s) cell = Take Eax cell ∷ Keep (slot_cell frame s) Eax ∷ []

-- between locations
abbrev pub moves : Frame → Location → Location → Block
moves frame (InRegister r) source = fetches frame (register_of r) source
moves frame (InSlot s) source = keeps frame (slot_cell frame s) source

-- the arguments that pass in registers
abbrev pub fetches_each : Frame → List Register → List Location → Block
fetches_each frame [] ls = []
fetches_each frame (r ∷ rs) [] = []
fetches_each frame (r ∷ rs) (l ∷ ls) = fetches frame r l ++ fetches_each frame rs ls

-- the arguments that pass in the first cells of the frame
abbrev pub keeps_each : Frame → ℕ → List Location → Block
keeps_each frame cell [] = []
keeps_each frame cell (l ∷ ls) = keeps frame cell l ++ keeps_each frame (cell + 1) ls

abbrev pub passes : Frame → List Location → Block
passes frame arguments = keeps_each frame 0 (drop 4 arguments) ++ fetches_each frame passing arguments

-- the parameters that pass in registers
abbrev pub puts_each : Frame → List Location → List Register → Block
puts_each frame [] rs = []
puts_each frame (l ∷ ls) [] = []
puts_each frame (l ∷ ls) (r ∷ rs) = puts frame l r ++ puts_each frame ls rs

-- the others, from the first cells of the caller's frame
abbrev pub takes_each : Frame → ℕ → List Location → Block
takes_each frame j [] = []
takes_each frame j (l ∷ ls) = takes frame l (argument_cell frame j) ++ takes_each frame (j + 1) ls

abbrev pub receives : Frame → List Location → Block
receives frame parameters = puts_each frame parameters passing ++ takes_each frame 0 (drop 4 parameters)
