-- What native code does, in the terms of Linear.
use Rattle.std.specs.Prelude.{ℕ, None}
use Rattle.lang.specs.Form.{IsProgram}
use Rattle.lang_base.specs.Keeps.{Keeps}
use Rattle.lang_base.specs.declared.program.Program.{Program}
use Rattle.linear_language.specs.Function.{FunctionData, IsFunction}
use Rattle.linear_language.specs.Meaning.{run}
use Rattle.x86_syntax.specs.declared.function.Function.{Function}
use Rattle.x86.specs.Meaning as native
use Rattle.native_lowering_definition.specs.Lowering.{lowered}
use Rattle.native_lowering_room.specs.Room.{KeepsInRoom}
use Rattle.native_lowering_safe.specs.Safe.{IsSafe}

-- of a program in range the native one keeps the meaning, whatever words are drawn for what is left open
abbrev pub KeepsMeaning : Program FunctionData → Program Function → Type 0
KeepsMeaning p code = IsProgram IsFunction p → (junk : ℕ → ℕ) → Keeps (run p) (native.run code junk None)

-- so does the native program of each
abbrev pub LoweringKeeps : Type 0
LoweringKeeps = (p : Program FunctionData) → KeepsMeaning p (lowered p)

-- with any bound on the stack each native program shows the same, or is full
abbrev pub RoomKeeps : Type 0
RoomKeeps = (code : Program Function) → KeepsInRoom code

-- of a program in range the native one is safe
abbrev pub StaysSafe : Program FunctionData → Program Function → Type 0
StaysSafe p code = IsProgram IsFunction p → IsSafe code

-- so is the native program of each
abbrev pub LoweringIsSafe : Type 0
LoweringIsSafe = (p : Program FunctionData) → StaysSafe p (lowered p)
