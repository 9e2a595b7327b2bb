-- The numbers that a user is shown beside the names of refusals.
use Rattle.std.specs.Prelude.{ℕ}
use Rattle.lang_base.specs.declared.errors.FormError.{FormError}
use Rattle.lang_base.specs.declared.errors.FormError.TheVariants as form
use Rattle.lang_base.specs.declared.errors.PassError.{PassError}
use Rattle.lang_base.specs.declared.errors.PassError.TheVariants as pass

abbrev pub number_of_form_error : FormError → ℕ
number_of_form_error form.NoMemory = 1
number_of_form_error form.Short = 101
number_of_form_error form.BadTag = 102
number_of_form_error form.NotCanonical = 103
number_of_form_error form.TooLarge = 104

abbrev pub number_of_pass_error : PassError → ℕ
number_of_pass_error pass.NoMemory = 1
number_of_pass_error pass.TooManyRegisters = 110
