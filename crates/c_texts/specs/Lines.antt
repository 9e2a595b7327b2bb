-- The line that a user is shown where a text is refused.
use Rattle.std.specs.Prelude.{ℕ, List, ◌++◌, Option, None, Some, codes}
use Rattle.std.specs.Fmt.{decimal}
use Rattle.c_lexer.specs.declared.errors.LexError.{LexError}
use Rattle.c_lexer.specs.declared.errors.LexError.TheVariants as L
use Rattle.c_reader.specs.declared.errors.ReadError.{ReadError}
use Rattle.c_reader.specs.declared.errors.ReadError.TheVariants as R
use Rattle.c_checker_rules.specs.declared.errors.CheckError.{CheckError}
use Rattle.c_checker_rules.specs.declared.errors.CheckError.TheVariants as C
use Rattle.c_texts.specs.Refusals.{number_of, offset_of}
use Rattle.c_texts.specs.declared.error.TextError.{TextError}
use Rattle.c_texts.specs.declared.error.TextError.TheVariants.{Lex, Read, Check}

-- the names of the faults
abbrev pub lex_name : LexError → List ℕ
lex_name L.NoMemory = codes "NoMemory"
lex_name (L.BadByte at) = codes "BadByte"
lex_name (L.OpenComment at) = codes "OpenComment"
lex_name (L.LiteralRange at) = codes "LiteralRange"
lex_name (L.BadChar at) = codes "BadChar"

abbrev pub read_name : ReadError → List ℕ
read_name R.NoMemory = codes "NoMemory"
read_name (R.Syntax at) = codes "Syntax"
read_name (R.TooDeep at) = codes "TooDeep"

abbrev pub check_name : CheckError → List ℕ
check_name C.NoMemory = codes "NoMemory"
check_name (C.Undeclared at) = codes "Undeclared"
check_name (C.Redeclared at) = codes "Redeclared"
check_name (C.WrongArity at) = codes "WrongArity"
check_name (C.VoidValue at) = codes "VoidValue"
check_name (C.NoMain at) = codes "NoMain"
check_name (C.BadMain at) = codes "BadMain"
check_name (C.NotConstant at) = codes "NotConstant"
check_name (C.NoBody at) = codes "NoBody"
check_name (C.Limit at) = codes "Limit"
check_name (C.StrayBreak at) = codes "StrayBreak"
check_name (C.ArrayUse at) = codes "ArrayUse"

abbrev pub name_of : TextError → List ℕ
name_of (Lex fault) = lex_name fault
name_of (Read fault) = read_name fault
name_of (Check fault) = check_name fault

-- a fault with its number, its name and its place; that memory was refused has no place
abbrev pub placed_line : ℕ → List ℕ → Option ℕ → List ℕ
placed_line number name None = codes "memory"
placed_line number name (Some at) = codes "refused " ++ (decimal number ++ (codes " " ++ (name ++ (codes " at " ++ decimal at))))

abbrev pub text_line : TextError → List ℕ
text_line fault = placed_line (number_of fault) (name_of fault) (offset_of fault)
