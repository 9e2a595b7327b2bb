-- Flags behind any code whose labels they say: what is told of an instruction behind it, and what the flags say then.
use Rattle.std.specs.Prelude.{◌≡◌, Bool, List, [], ◌∷◌, ◌++◌}
use Rattle.linear_language.specs.declared.instruction.Instruction.{Instruction}
use Rattle.linear_language.specs.Labels.{label_of, labels_of}
use Rattle.linear_language.specs.Reading.{is_new}
use Rattle.linear_language.specs.Flags.{Flags}

-- whether it is no label that stands before
abbrev pub TellsNew : List Bool → Instruction → Bool → Type 0
TellsNew flags i told = (before : List Instruction) → Flags flags (labels_of before) → told ≡ is_new (label_of i) (labels_of before)

-- the later flags say its label too
abbrev pub IsNoted : List Bool → Instruction → List Bool → Type 0
IsNoted flags i later = (before : List Instruction) → Flags flags (labels_of before) → Flags later (labels_of (before ++ i ∷ []))
