-- What is told of a function whose chosen offers are never linked.
use Rattle.std.specs.Prelude.{◌≡◌, ◌⊎◌, ℕ, ◌<◌, ◌≤◌, List, ◌++◌, String, length, map}
use Rattle.std.specs.Arc.{arc_value}
use Rattle.std.specs.Global.{Global}
use Rattle.std.specs.String.{string_bytes}
use Rattle.c_checker_rules.specs.Checked.{program_tree}
use Rattle.cminor_program_ranges.specs.Names.{HaveNames}
use Rattle.farm_nodes_source.specs.Refused.{HasNameAt}
use Rattle.farm_nodes_source.specs.declared.source.Source.{Source}
use Rattle.linker.specs.declared.errors.LinkError.TheVariants.{Unchained}
use Rattle.cfarm_build_faults.specs.Lines.{told_line}
use Rattle.cfarm_build_faults.specs.Statuses.{status_of}
use Rattle.cfarm_build_faults.specs.declared.error.BuildError.{BuildError}
use Rattle.cfarm_build_faults.specs.declared.error.BuildError.TheVariants.{Unlinked}
use Rattle.cfarm_fsck.specs.declared.error.FsckError.{FsckError}
use Rattle.cfarm_fsck.specs.declared.error.FsckError.TheVariants as fsck
use Rattle.cfarm_output.specs.Errors.{ErrorsHeld}
use Rattle.cfarm_program_status.specs.Telling.{Answer, IsToldAs, no_memory, told}
use Rattle.cfarm_fsck_files.specs.Lost.{ended}

-- the line and the status with which `build` is refused so, behind these lines
abbrev pub behind_lines : (lines : List ℕ) → BuildError → Answer
behind_lines lines fault = told (status_of fault) (ended lines ++ told_line fault)

-- so it is told, behind these lines, that this function's offers are not linked; or there is no memory for it
abbrev pub IsUnchainedTold : Source → (lines : List ℕ) → ℕ → Answer → Type 0
IsUnchainedTold source lines function answer =
    ((name : String Global) × HasNameAt (map (λ f. f.name) source.program.functions) function (string_bytes name)
    × (answer ≡ behind_lines lines (Unlinked (Unchained function) name)))
    ⊎ (answer ≡ no_memory)

-- so it is said on standard error
abbrev pub IsSaidOf : Source → (lines : List ℕ) → ℕ → (status : ℕ) → ErrorsHeld → ErrorsHeld → Type 0
IsSaidOf source lines function status before after =
    (answer : Answer) × IsUnchainedTold source lines function answer × IsToldAs answer status before after

-- a function that is told is one of the text's
abbrev pub IsWithin : Source → FsckError → Type 0
IsWithin source (fsck.Disks fault) = Unit {0}
IsWithin source (fsck.Unchained function) = function < length source.program.functions
IsWithin source fsck.NoMemory = Unit {0}
IsWithin source fsck.Write = Unit {0}

-- A text that is ready to be looked over: its functions have C names, there are at most 64, and one is translated for each.
pub record IsReady (source : Source) : Type 0 where
  pub names : HaveNames (program_tree source.program)
  pub few : length (arc_value source.translated).functions ≤ 64
  pub as_many : length (arc_value source.translated).functions ≡ length source.program.functions
