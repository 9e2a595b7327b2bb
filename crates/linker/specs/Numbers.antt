-- The number that a user is shown beside a refusal's name, and the function that it is about.
use Rattle.std.specs.Prelude.{ℕ, Option, Some, None}
use Rattle.linker.specs.declared.errors.LinkError.{LinkError}
use Rattle.linker.specs.declared.errors.LinkError.TheVariants.{NoMemory, TooManyNodes, Missing, Unchained, Names}

abbrev pub number_of_link_error : LinkError → ℕ
number_of_link_error NoMemory = 1
number_of_link_error (TooManyNodes function) = 240
number_of_link_error (Missing function) = 601
number_of_link_error (Unchained function) = 602
number_of_link_error Names = 603

abbrev pub function_of_link_error : LinkError → Option ℕ
function_of_link_error NoMemory = None
function_of_link_error (TooManyNodes function) = Some function
function_of_link_error (Missing function) = Some function
function_of_link_error (Unchained function) = Some function
function_of_link_error Names = None
