-- Which hint belongs to a fault of a command over a text.
use Rattle.std.specs.Prelude.{◌≡◌, ℕ, List, [], Option, None, Some}
use Rattle.c_hints.specs.Hints.{IsHint}
use Rattle.c_texts.specs.Refusals.{number_of, offset_of}
use Rattle.cfarm_run.specs.declared.command_error.CommandError.{CommandError}
use Rattle.cfarm_run.specs.declared.command_error.CommandError.TheVariants.{Run, Text}

-- where the fault has a place, a hint of its number there; else none
abbrev pub IsHintWhere : (text : List ℕ) → ℕ → Option ℕ → List ℕ → Type 0
IsHintWhere text number None hint = hint ≡ []
IsHintWhere text number (Some at) hint = IsHint text at number hint

-- of a fault of the text; of another none
abbrev pub IsHintOfFault : (text : List ℕ) → CommandError → List ℕ → Type 0
IsHintOfFault text (Text fault) hint = IsHintWhere text (number_of fault) (offset_of fault) hint
IsHintOfFault text (Run fault) hint = hint ≡ []
