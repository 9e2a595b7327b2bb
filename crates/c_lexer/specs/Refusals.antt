-- The refusals' numbers and offsets.
use Rattle.std.specs.Prelude.{ℕ, Option, Some, None}
use Rattle.c_lexer.specs.declared.errors.LexError.{LexError}
use Rattle.c_lexer.specs.declared.errors.LexError.TheVariants.{NoMemory, BadByte, OpenComment, LiteralRange, BadChar}

abbrev pub number_of : LexError → ℕ
number_of NoMemory = 1
number_of (BadByte at) = 201
number_of (OpenComment at) = 202
number_of (LiteralRange at) = 203
number_of (BadChar at) = 204

abbrev pub offset_of : LexError → Option ℕ
offset_of NoMemory = None
offset_of (BadByte at) = Some at
offset_of (OpenComment at) = Some at
offset_of (LiteralRange at) = Some at
offset_of (BadChar at) = Some at
