-- The numbers of the refusals, which a user is shown.
use Rattle.std.specs.Prelude.{ℕ}
use Rattle.lang_helpers.specs.declared.error.RunError.{RunError}
use Rattle.lang_helpers.specs.declared.error.RunError.TheVariants.{NoMemory, Write}

abbrev pub number_of : RunError → ℕ
number_of NoMemory = 1
number_of Write = 701
