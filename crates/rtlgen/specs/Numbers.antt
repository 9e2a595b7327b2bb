-- The numbers that a user is shown beside the names.
use Rattle.std.specs.Prelude.{ℕ}
use Rattle.rtlgen.specs.declared.errors.GenError.{GenError}
use Rattle.rtlgen.specs.declared.errors.GenError.TheVariants.{NoMemory, TooManyNodes}

abbrev pub number_of : GenError → ℕ
number_of NoMemory = 1
number_of (TooManyNodes n) = 240
