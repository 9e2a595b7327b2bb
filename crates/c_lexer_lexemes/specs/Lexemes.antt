-- What spells a token, and the longest match (C99 6.4 paragraph 4).
use Rattle.std.specs.Prelude.{◌≡◌, ◌≢◌, ℕ, ◌<◌, ◌≤◌, ◌⊎◌, List, ◌++◌, length, IsTrue, IsFalse, Some}
use Rattle.std.specs.List.{AllPass}
use Rattle.c_syntax.specs.declared.constant.Constant.{Constant}
use Rattle.c_syntax.specs.declared.constant.IntegerType.TheVariants.{Int}
use Rattle.c_syntax.specs.declared.keyword.Keyword.{Keyword}
use Rattle.c_syntax.specs.declared.punctuator.Punctuator.{Punctuator}
use Rattle.c_syntax.specs.declared.token.TokenKind.{TokenKind}
use Rattle.c_syntax.specs.declared.token.TokenKind.TheVariants as kinds
use Rattle.c_lexer_lexemes.specs.Bytes.{is_word_byte, begins_with_digit}
use Rattle.c_lexer_lexemes.specs.Characters.{IsCharacter}
use Rattle.c_lexer_lexemes.specs.Keywords.{keyword_text}
use Rattle.c_lexer_lexemes.specs.Numbers.{constant_of}
use Rattle.c_lexer_lexemes.specs.Punctuators.{punctuator_text}

-- letters, digits and underscores, one or more
pub record IsWord (bytes : List ℕ) : Type 0 where
  pub some : 0 < length bytes
  pub all : AllPass is_word_byte bytes

-- What the longest match is taken of. A word that begins with a digit is one, whether or not it is a constant.
pub data IsLexeme (bytes : List ℕ) : Type 0 where
  word : IsWord bytes → IsLexeme bytes
  punctuator : (p : Punctuator) → bytes ≡ punctuator_text p → IsLexeme bytes
  character : (n : ℕ) → IsCharacter bytes n → IsLexeme bytes

-- no longer lexeme begins where these bytes do, before this rest
abbrev pub IsLongest : List ℕ → List ℕ → Type 0
IsLongest bytes rest = (other behind : List ℕ) → IsLexeme other → bytes ++ rest ≡ other ++ behind → length other ≤ length bytes

-- a name (C99 6.4.2)
pub record IsName (bytes : List ℕ) : Type 0 where
  pub word : IsWord bytes
  pub no_digit_first : IsFalse (begins_with_digit bytes)
  pub no_keyword : (k : Keyword) → bytes ≢ keyword_text k

-- a word that begins with a digit and spells a constant
pub record IsNumber (bytes : List ℕ) (c : Constant) : Type 0 where
  pub word : IsWord bytes
  pub digit_first : IsTrue (begins_with_digit bytes)
  pub spelled : constant_of bytes ≡ Some c

-- The bytes spell the token.
abbrev pub Spells : TokenKind → List ℕ → Type 0
Spells (kinds.Name name) bytes = (name ≡ bytes) × IsName bytes
Spells (kinds.Constant c) bytes = IsNumber bytes c ⊎ ((c.kind ≡ Int) × IsCharacter bytes c.value)
Spells (kinds.Keyword k) bytes = bytes ≡ keyword_text k
Spells (kinds.Punctuator p) bytes = bytes ≡ punctuator_text p
