-- The numbers and places that a user is shown beside the names of refusals.
use Rattle.std.specs.Prelude.{ℕ, Option, Some, None}
use Rattle.c_reader.specs.declared.errors.ReadError.{ReadError}
use Rattle.c_reader.specs.declared.errors.ReadError.TheVariants as E

abbrev pub number_of_read_error : ReadError → ℕ
number_of_read_error E.NoMemory = 1
number_of_read_error (E.Syntax at) = 210
number_of_read_error (E.TooDeep at) = 211

abbrev pub offset_of_read_error : ReadError → Option ℕ
offset_of_read_error E.NoMemory = None
offset_of_read_error (E.Syntax at) = Some at
offset_of_read_error (E.TooDeep at) = Some at
