-- The numbers and places that a user is shown beside the names of refusals.
use Rattle.std.specs.Prelude.{ℕ, Option, Some, None}
use Rattle.c_checker_rules.specs.declared.errors.CheckError.{CheckError}
use Rattle.c_checker_rules.specs.declared.errors.CheckError.TheVariants as E

abbrev pub number_of_check_error : CheckError → ℕ
number_of_check_error E.NoMemory = 1
number_of_check_error (E.Undeclared at) = 220
number_of_check_error (E.Redeclared at) = 221
number_of_check_error (E.WrongArity at) = 222
number_of_check_error (E.VoidValue at) = 223
number_of_check_error (E.NoMain at) = 224
number_of_check_error (E.BadMain at) = 225
number_of_check_error (E.NotConstant at) = 226
number_of_check_error (E.NoBody at) = 227
number_of_check_error (E.Limit at) = 228
number_of_check_error (E.StrayBreak at) = 229
number_of_check_error (E.ArrayUse at) = 230

abbrev pub offset_of_check_error : CheckError → Option ℕ
offset_of_check_error E.NoMemory = None
offset_of_check_error (E.Undeclared at) = Some at
offset_of_check_error (E.Redeclared at) = Some at
offset_of_check_error (E.WrongArity at) = Some at
offset_of_check_error (E.VoidValue at) = Some at
offset_of_check_error (E.NoMain at) = Some at
offset_of_check_error (E.BadMain at) = Some at
offset_of_check_error (E.NotConstant at) = Some at
offset_of_check_error (E.NoBody at) = Some at
offset_of_check_error (E.Limit at) = Some at
offset_of_check_error (E.StrayBreak at) = Some at
offset_of_check_error (E.ArrayUse at) = Some at
