-- What `show` comes to, on the bytes of its file: what it wrote, and what it answers.
use Rattle.std.specs.Prelude.{◌≡◌, ◌⊎◌, ℕ, List, Option}
use Rattle.text_files.specs.Files.{HasShown, HasNotShown}
use Rattle.text_files.specs.Lines.{show_line}
use Rattle.text_files.specs.Statuses.{status_of}
use Rattle.text_files.specs.declared.error.ShowError.{ShowError}
use Rattle.cfarm_program_status.specs.Telling.{Answer, quiet, told}

abbrev pub show_fault : ShowError → Answer
show_fault fault = told (status_of fault) (show_line fault)

-- the text of the program that the bytes are is printed, or why there is none is told
abbrev pub Texted : List ℕ → Answer → Option (List ℕ) → Option (List ℕ) → Type 0
Texted bytes answer before after =
    (HasShown bytes before after × (answer ≡ quiet))
    ⊎ ((fault : ShowError) × HasNotShown bytes fault before after × (answer ≡ show_fault fault))
