-- The line that a user is shown where bytes are refused, and the exit status of the program.
use Rattle.std.specs.Prelude.{ℕ, List, ◌++◌, codes}
use Rattle.std.specs.Fmt.{decimal}
use Rattle.lang_base.specs.Numbers.{number_of_form_error}
use Rattle.lang_base.specs.declared.errors.FormError.{FormError}
use Rattle.lang_base.specs.declared.errors.FormError.TheVariants as form
use Rattle.cfarm_shown_paths.specs.Shown.{shown_path}

abbrev pub form_name : FormError → List ℕ
form_name form.NoMemory = codes "NoMemory"
form_name form.Short = codes "Short"
form_name form.BadTag = codes "BadTag"
form_name form.NotCanonical = codes "NotCanonical"
form_name form.TooLarge = codes "TooLarge"

-- a fault of the bytes, by its number and its name
abbrev pub form_line : FormError → List ℕ
form_line fault = codes "refused " ++ (decimal (number_of_form_error fault) ++ (codes " " ++ form_name fault))

-- the same with the path of the file of the bytes, as it is shown; that memory was refused is told alone
abbrev pub form_line_in : FormError → List ℕ → List ℕ
form_line_in form.NoMemory path = codes "memory"
form_line_in fault path = form_line fault ++ (codes " in " ++ shown_path path)

-- 7 for want of memory, else 1
abbrev pub form_status_of : FormError → ℕ
form_status_of form.NoMemory = 7
form_status_of fault = 1
