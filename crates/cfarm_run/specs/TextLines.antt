-- The line that a user is shown where a command over a text is not done.
use Rattle.std.specs.Prelude.{ℕ, List, Option, None, Some, codes}
use Rattle.c_texts.specs.Lines.{text_line}
use Rattle.c_texts.specs.Refusals.{number_of, offset_of}
use Rattle.c_texts.specs.declared.error.TextError.{TextError}
use Rattle.c_places.specs.Places.{place_of}
use Rattle.cfarm_run.specs.PlacedLines.{told_line}
use Rattle.cfarm_run.specs.Sentences.{sentence_of}
use Rattle.lang_helpers.specs.declared.error.RunError.TheVariants as run
use Rattle.cfarm_run.specs.declared.command_error.CommandError.{CommandError}
use Rattle.cfarm_run.specs.declared.command_error.CommandError.TheVariants.{Text, Run}

abbrev pub error_line : CommandError → List ℕ
error_line (Text fault) = text_line fault
error_line (Run run.NoMemory) = codes "memory"
error_line (Run run.Write) = codes "write 701"

-- The same as compilers tell editors, of the text of a file: a fault by its place, a sentence, a hint where one is given, and its number.
-- What has no place is told as ever.
abbrev pub gcc_text : List ℕ → List ℕ → TextError → List ℕ → Option ℕ → List ℕ
gcc_text path text fault hint None = codes "memory"
gcc_text path text fault hint (Some at) = told_line path (place_of text at) (sentence_of fault) hint (number_of fault)

abbrev pub gcc_line : List ℕ → List ℕ → CommandError → List ℕ → List ℕ
gcc_line path text (Text fault) hint = gcc_text path text fault hint (offset_of fault)
gcc_line path text (Run run.NoMemory) hint = codes "memory"
gcc_line path text (Run run.Write) hint = codes "write 701"
