-- The line that a user is shown where a text is not shown.
use Rattle.std.specs.Prelude.{ℕ, List, codes}
use Rattle.lang_base.specs.declared.errors.FormError.TheVariants as form
use Rattle.lang_helpers.specs.declared.error.RunError.TheVariants as run
use Rattle.cfarm_output.specs.Lines.{form_line}
use Rattle.text_files.specs.declared.error.ShowError.{ShowError}
use Rattle.text_files.specs.declared.error.ShowError.TheVariants as error

abbrev pub show_line : ShowError → List ℕ
show_line (error.Form form.NoMemory) = codes "memory"
show_line (error.Form form.Short) = form_line form.Short
show_line (error.Form form.BadTag) = form_line form.BadTag
show_line (error.Form form.NotCanonical) = form_line form.NotCanonical
show_line (error.Form form.TooLarge) = form_line form.TooLarge
show_line (error.Run run.NoMemory) = codes "memory"
show_line (error.Run run.Write) = codes "write 701"
