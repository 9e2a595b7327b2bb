-- How the parts of a program are read, up to its functions.
use Rattle.std.specs.Prelude.{ℕ, ◌+◌, Bool, not, ◌&&◌, List, length, nat_eq, nat_le}
use Rattle.std.specs.Int.{w16, w32}
use Rattle.std.specs.List.{list_all}
use Rattle.std.specs.Option.{is_none}
use Rattle.lang_base.specs.declared.errors.FormError.TheVariants.{NotCanonical, TooLarge}
use Rattle.lang_base.specs.Reading.{Reading, byte, number, made, tested, below, up_to, both, counted, tagged}
use Rattle.lang_base.specs.declared.program.Global.{Global}
use Rattle.c_lexer_lexemes.specs.Bytes.{is_word_byte, begins_with_digit}
use Rattle.c_lexer_lexemes.specs.Lookups.{keyword_of}
use Rattle.lang.specs.Form.{global_limit, cell_limit, function_limit, ends_well, cells_of_all}

-- letters, digits and underscores, one or more
abbrev pub is_word : List ℕ → Bool
is_word bytes = not (nat_eq (length bytes) 0) && list_all is_word_byte bytes

-- the test for a name: no digit first, and no keyword
abbrev pub is_name : List ℕ → Bool
is_name bytes = (is_word bytes && not (begins_with_digit bytes)) && is_none (keyword_of bytes)

unfoldable pub name : Reading (List ℕ)
name bytes = tested is_name NotCanonical (counted byte (λ before. byte)) bytes

-- the number of a global's cells, behind globals of so many
unfoldable pub cells : ℕ → Reading ℕ
cells total bytes = tested (λ n. nat_le (total + n) cell_limit) TooLarge (tested (λ n. not (nat_eq n 0)) NotCanonical (number w32)) bytes

-- the listed words, no more than there are cells
unfoldable pub words : ℕ → Reading (List ℕ)
words cells bytes = tested ends_well NotCanonical (counted (below (cells + 1) (number w32)) (λ before. number w32)) bytes

unfoldable pub global : ℕ → Reading Global
global total bytes = made (λ p. record { cells = p.0; first_words = p.1 }) (both (cells total) (λ n. words n)) bytes

unfoldable pub globals : Reading (List Global)
globals bytes = counted (up_to global_limit (number w16)) (λ before. global (cells_of_all before)) bytes

-- the globals, and the number of functions
unfoldable pub body : Reading (List Global × ℕ)
body bytes = both globals (λ gs. up_to function_limit byte) bytes

-- `CFP1`, the language's tag, and what stands behind them
unfoldable pub head : ℕ → Reading (List Global × ℕ)
head tag bytes = tagged 67 (tagged 70 (tagged 80 (tagged 49 (tagged tag body)))) bytes
