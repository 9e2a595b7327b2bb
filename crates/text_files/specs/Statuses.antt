-- The exit statuses of the program where a text was not shown.
use Rattle.std.specs.Prelude.{ℕ}
use Rattle.lang_base.specs.declared.errors.FormError.{FormError}
use Rattle.lang_base.specs.declared.errors.FormError.TheVariants as form
use Rattle.lang_helpers.specs.declared.error.RunError.TheVariants as run
use Rattle.text_files.specs.declared.error.ShowError.{ShowError}
use Rattle.text_files.specs.declared.error.ShowError.TheVariants.{Form, Run}

-- 7 where memory was refused, else 1
abbrev pub status_of_form : FormError → ℕ
status_of_form form.NoMemory = 7
status_of_form form.Short = 1
status_of_form form.BadTag = 1
status_of_form form.NotCanonical = 1
status_of_form form.TooLarge = 1

abbrev pub status_of : ShowError → ℕ
status_of (Form fault) = status_of_form fault
status_of (Run run.NoMemory) = 7
status_of (Run run.Write) = 4
