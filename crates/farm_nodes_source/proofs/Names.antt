-- C names are text.
use Rattle.std.proofs.Common.{◌≡◌, ℕ, ◌<◌, true, List, get_or, arith}
use Rattle.std.specs.Str.{IsUtf8}
use Rattle.std.proofs.lemmas.Bool.Decides.{nat_tests}
use Rattle.std.proofs.lemmas.Str.{IsUtf8-from_ascii}
use Rattle.std.proofs.lemmas.Str.Ascii.{IsAscii-from_all}
use Rattle.c_lexer_lexemes.specs.Bytes.{is_word_byte}
use Rattle.c_lexer_lexemes.specs.Lexemes.{IsName}

word_low : (b : ℕ) → is_word_byte b ≡ true → b < 128
word_low b is = grind (arith, nat_tests)

pub name_is_text : (bytes : List ℕ) → IsName bytes → IsUtf8 bytes
name_is_text bytes name = IsUtf8-from_ascii bytes (IsAscii-from_all bytes (λ i d below. word_low (get_or bytes i d) (name.word.all i d below)))
