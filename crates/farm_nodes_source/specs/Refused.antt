-- Why a C text is not made ready for the first pass.
use Rattle.std.specs.Prelude.{◌≡◌, ℕ, List, Some, map, slice_get}
use Rattle.std.specs.String.{string_bytes}
use Rattle.c_syntax.specs.Trees.{UnitTree}
use Rattle.c_program.specs.Trees.{ProgramTree}
use Rattle.c_checker_rules.specs.Units.{program_of}
use Rattle.c_texts.specs.Accepted.{IsAccepted}
use Rattle.c_texts.specs.Refusals.{IsOutOfMemory, IsRefused}
use Rattle.cminor_lowering.specs.Programs.{low}
use Rattle.rtlgen.specs.Refused.{IsFirstTooLarge}
use Rattle.farm_nodes_source.specs.declared.fault.SourceFault.{SourceFault}
use Rattle.farm_nodes_source.specs.declared.fault.SourceFault.TheVariants.{NoMemory, Text, TooManyNodes}

-- this is the name of that number
abbrev pub HasNameAt : List (List ℕ) → ℕ → List ℕ → Type 0
HasNameAt names i name = slice_get names i ≡ Some name

-- the first function of the program that needs too many nodes has this name
pub record IsTooLarge (p : ProgramTree) (name : List ℕ) : Type 0 where
  pub function : ℕ
  pub first : IsFirstTooLarge (low p).functions function
  pub named : HasNameAt (map (λ f. f.name) p.functions) function name

-- why a program is not translated; that memory was refused says nothing of it
abbrev pub IsUntranslated : ProgramTree → SourceFault → Type 0
IsUntranslated p NoMemory = Unit {0}
IsUntranslated p (Text fault) = ⊥
IsUntranslated p (TooManyNodes name) = IsTooLarge p (string_bytes name)

-- the first fault of the text, or its first function that needs too many nodes; that memory was refused says nothing of it
abbrev pub IsUnprepared : List ℕ → SourceFault → Type 0
IsUnprepared text NoMemory = Unit {0}
IsUnprepared text (Text fault) = IsRefused text fault
IsUnprepared text (TooManyNodes name) = (u : UnitTree) × IsAccepted text u × IsTooLarge (program_of u) (string_bytes name)

-- a text that is accepted, and has this tree, is refused only where memory was, or for a function that needs too many nodes
abbrev pub IsOnlyTooLarge : UnitTree → SourceFault → Type 0
IsOnlyTooLarge u NoMemory = Unit {0}
IsOnlyTooLarge u (Text fault) = IsOutOfMemory fault
IsOnlyTooLarge u (TooManyNodes name) = IsTooLarge (program_of u) (string_bytes name)

-- the function of this number is told by its name, unless memory was refused
abbrev pub IsNamed : List (List ℕ) → ℕ → SourceFault → Type 0
IsNamed names i NoMemory = Unit {0}
IsNamed names i (Text fault) = ⊥
IsNamed names i (TooManyNodes name) = HasNameAt names i (string_bytes name)
