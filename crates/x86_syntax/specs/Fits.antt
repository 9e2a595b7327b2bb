-- Code that is in range: a word has 32 bits, any other number its width, and no label stands twice.
use Rattle.std.specs.Prelude.{◌≡◌, ℕ, ◌<◌, ◌^◌, List, Some, slice_get}
use Rattle.std.specs.List.{AllByRecursion}
use Rattle.x86_syntax.specs.declared.function.Function.{Function}
use Rattle.x86_syntax.specs.declared.instruction.Instruction.{Instruction}
use Rattle.x86_syntax.specs.declared.instruction.Instruction.TheVariants.{Label, Set, Take, Keep, DoWith, Shift, CompareWith, Jump, JumpIf, Load, Store, LoadAt, StoreAt, Call, Grow, Shrink}
use Rattle.x86_syntax.specs.Labels.{place_of}

-- labels, globals and cells of the stack are numbered by 16 bits
abbrev pub IsHalf : ℕ → Type 0
IsHalf n = n < 2 ^ 16

abbrev pub IsWord : ℕ → Type 0
IsWord w = w < 2 ^ 32

-- each number in it is in range
abbrev pub InstructionFits : Instruction → Type 0
InstructionFits (Label label) = IsHalf label
InstructionFits (Set target word) = IsWord word
InstructionFits (Take target cell) = IsHalf cell
InstructionFits (Keep cell source) = IsHalf cell
InstructionFits (DoWith op target word) = IsWord word
InstructionFits (Shift op target count) = IsWord count
InstructionFits (CompareWith left word) = IsWord word
InstructionFits (Jump label) = IsHalf label
InstructionFits (JumpIf condition label) = IsHalf label
InstructionFits (Load target global index) = IsHalf global
InstructionFits (Store global index source) = IsHalf global
InstructionFits (LoadAt target global cell) = IsHalf global × IsWord cell
InstructionFits (StoreAt global cell source) = IsHalf global × IsWord cell
InstructionFits (Call function) = function < 2 ^ 8
InstructionFits (Grow count) = IsHalf count
InstructionFits (Shrink count) = IsHalf count
InstructionFits _ = Unit {0}

-- each label is found where it stands
abbrev pub LabelsStandOnce : List Instruction → Type 0
LabelsStandOnce code = (place label : ℕ) → slice_get code place ≡ Some (Label label) → place_of label code ≡ Some place

-- a function in range
pub record IsFunction (f : Function) : Type 0 where
  pub parameters : f.parameters < 2 ^ 8
  pub each : AllByRecursion InstructionFits f.code
  pub labels : LabelsStandOnce f.code
