-- What a command that is not done says of its text, and what it wrote.
use Rattle.std.specs.Prelude.{◌≡◌, ℕ, List, Option, Ok, Err}
use Rattle.std.specs.Io.KnownBytes.{Appends}
use Rattle.lang_base.specs.declared.shown.Shown.{Shown}
use Rattle.c_syntax.specs.Trees.{UnitTree}
use Rattle.c_checker_rules.specs.Units.{program_of}
use Rattle.cfarm_output.specs.Begun.{IsBegun}
use Rattle.c_texts.specs.Accepted.{IsAccepted}
use Rattle.cfarm_run.specs.Counts.{counts_line}
use Rattle.c_texts.specs.Refusals.{IsRefused}
use Rattle.lang_helpers.specs.Written.{Wrote}
use Rattle.lang_helpers.specs.declared.error.RunError.TheVariants as R
use Rattle.c_program.specs.Meaning.{crun}
use Rattle.cfarm_run.specs.declared.command_error.CommandError.{CommandError}
use Rattle.cfarm_run.specs.declared.command_error.CommandError.TheVariants.{Text, Run}

-- the text is accepted, and its counts were printed
abbrev pub HasCounted : List ℕ → Option (List ℕ) → Option (List ℕ) → Type 0
HasCounted text before after = (u : UnitTree) × IsAccepted text u × Appends before after (counts_line (program_of u))

-- the text is accepted, and what its program does at the bound was written and is told
abbrev pub HasRun : List ℕ → ℕ → Shown → Option (List ℕ) → Option (List ℕ) → Type 0
HasRun text depth shown before after = (u : UnitTree) × IsAccepted text u × Wrote (crun (program_of u) depth) (Ok shown) before after

-- a text that is refused has this first fault
abbrev pub IsTextFault : List ℕ → CommandError → Type 0
IsTextFault text (Text fault) = IsRefused text fault
IsTextFault text (Run fault) = Unit {0}

-- a text that is refused prints nothing; a run that is broken off is one of an accepted text, and wrote a beginning of the output
abbrev pub Ran : List ℕ → ℕ → CommandError → Option (List ℕ) → Option (List ℕ) → Type 0
Ran text depth (Text fault) before after = after ≡ before
Ran text depth (Run fault) before after = (u : UnitTree) × IsAccepted text u × Wrote (crun (program_of u) depth) (Err fault) before after

-- What `check` printed: nothing of a text that is refused, and nothing where there is no memory. The writer is said to have
-- failed at an accepted text alone, and holds a beginning of its counts.
abbrev pub Printed : List ℕ → CommandError → Option (List ℕ) → Option (List ℕ) → Type 0
Printed text (Text fault) before after = after ≡ before
Printed text (Run R.NoMemory) before after = after ≡ before
Printed text (Run R.Write) before after = (u : UnitTree) × IsAccepted text u × IsBegun (counts_line (program_of u)) before after
