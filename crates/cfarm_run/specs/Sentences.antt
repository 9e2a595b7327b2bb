-- What a fault of a text means, in a sentence.
use Rattle.std.specs.Prelude.{ℕ, List, codes}
use Rattle.c_lexer.specs.declared.errors.LexError.{LexError}
use Rattle.c_lexer.specs.declared.errors.LexError.TheVariants as L
use Rattle.c_reader.specs.declared.errors.ReadError.{ReadError}
use Rattle.c_reader.specs.declared.errors.ReadError.TheVariants as R
use Rattle.c_checker_rules.specs.declared.errors.CheckError.{CheckError}
use Rattle.c_checker_rules.specs.declared.errors.CheckError.TheVariants as C
use Rattle.c_texts.specs.declared.error.TextError.{TextError}
use Rattle.c_texts.specs.declared.error.TextError.TheVariants.{Lex, Read, Check}

abbrev pub lex_sentence : LexError → List ℕ
lex_sentence L.NoMemory = codes "there was no memory"
lex_sentence (L.BadByte at) = codes "this byte begins no token"
lex_sentence (L.OpenComment at) = codes "this comment is not ended"
lex_sentence (L.LiteralRange at) = codes "this number fits neither `int` nor `unsigned`, or something follows it at once"
lex_sentence (L.BadChar at) = codes "this begins no character constant"

abbrev pub read_sentence : ReadError → List ℕ
read_sentence R.NoMemory = codes "there was no memory"
read_sentence (R.Syntax at) = codes "this does not fit what stands before it"
read_sentence (R.TooDeep at) = codes "statements and expressions stand more than 200 deep in one another here"

abbrev pub check_sentence : CheckError → List ℕ
check_sentence C.NoMemory = codes "there was no memory"
check_sentence (C.Undeclared at) = codes "this name is not declared before as what it is used as"
check_sentence (C.Redeclared at) = codes "this name is declared already, in this scope or as another type"
check_sentence (C.WrongArity at) = codes "this function is called with another number of arguments"
check_sentence (C.VoidValue at) = codes "a value is wanted of a function without one, or given by it"
check_sentence (C.NoMain at) = codes "there is no function `main`"
check_sentence (C.BadMain at) = codes "`main` has to be `int main(void)`"
check_sentence (C.NotConstant at) = codes "a global begins with a constant: without names, and without what goes wrong"
check_sentence (C.NoBody at) = codes "this function is called and has no body"
check_sentence (C.Limit at) = codes "this passes a limit of the language"
check_sentence (C.StrayBreak at) = codes "this stands outside of every loop"
check_sentence (C.ArrayUse at) = codes "an array without an index, an index without an array, or initial words that do not fit"

abbrev pub sentence_of : TextError → List ℕ
sentence_of (Lex fault) = lex_sentence fault
sentence_of (Read fault) = read_sentence fault
sentence_of (Check fault) = check_sentence fault
