-- Where a function has words, and the words with which a caller goes on.
use Rattle.std.specs.Prelude.{ℕ, ◌<◌, [], length, Option}
use Rattle.locations.specs.declared.location.Location.{Location}
use Rattle.locations.specs.declared.location.Location.TheVariants.{InRegister, InSlot}
use Rattle.machine.specs.Calls.{waiting}
use Rattle.machine.specs.Data.{Data}
use Rattle.machine.specs.Frames.{State, resumed}

-- one of its registers or slots
abbrev pub LiesIn : Data → Location → Type 0
LiesIn d (InRegister r) = r < length d.registers
LiesIn d (InSlot s) = s < length d.slots

-- a caller had the first data as it began to wait, and its callee has the second as it returns this; no moves are to be done
abbrev pub words_after : State → Data → Data → Option Location → Option ℕ → Data
words_after s before after target value = (resumed value after (waiting s before target 0 []) []).here
