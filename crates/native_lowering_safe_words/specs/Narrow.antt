-- Code whose words have 32 bits.
use Rattle.std.specs.Prelude.{◌<◌, ◌^◌, List}
use Rattle.std.specs.List.{AllByRecursion}
use Rattle.x86_syntax.specs.declared.instruction.Instruction.{Instruction}
use Rattle.x86_syntax.specs.declared.instruction.Instruction.TheVariants.{Set, DoWith, Shift}

-- the word that it writes, makes a word with, or shifts by
abbrev pub IsNarrow : Instruction → Type 0
IsNarrow (Set target word) = word < 2 ^ 32
IsNarrow (DoWith op target word) = word < 2 ^ 32
IsNarrow (Shift op target count) = count < 2 ^ 32
IsNarrow _ = Unit {0}

abbrev pub AreNarrow : List Instruction → Type 0
AreNarrow is = AllByRecursion IsNarrow is
