-- What is refused.
use Rattle.std.specs.Prelude.{◌≡◌, ◌≢◌, ℕ, List, ◌∷◌, ◌++◌, None, IsTrue, IsFalse, codes}
use Rattle.c_lexer_lexemes.specs.Bytes.{is_white, begins_with_digit}
use Rattle.c_lexer_lexemes.specs.Characters.{IsCharacter}
use Rattle.c_lexer_lexemes.specs.Lexemes.{IsWord, IsLexeme, IsLongest}
use Rattle.c_lexer_lexemes.specs.Numbers.{constant_of}

-- a byte that begins nothing, and is no quote
pub record IsBadByte (text : List ℕ) : Type 0 where
  pub byte : ℕ
  pub behind : List ℕ
  pub first : text ≡ byte ∷ behind
  pub no_white : IsFalse (is_white byte)
  pub no_quote : byte ≢ 39
  pub no_lexeme : (bytes rest : List ℕ) → IsLexeme bytes → text ≢ bytes ++ rest

-- a comment that is not closed
pub record IsOpenComment (text : List ℕ) : Type 0 where
  pub body : List ℕ
  pub opened : text ≡ codes "/*" ++ body
  pub never_closed : (before behind : List ℕ) → body ≢ before ++ (codes "*/" ++ behind)

-- a word that begins with a digit and spells no constant
pub record IsRefused (word : List ℕ) : Type 0 where
  pub digit_first : IsTrue (begins_with_digit word)
  pub no_constant : constant_of word ≡ None

-- such a word, the longest
pub record IsBadNumber (text : List ℕ) : Type 0 where
  pub word : List ℕ
  pub rest : List ℕ
  pub split : text ≡ word ++ rest
  pub is_word : IsWord word
  pub longest : IsLongest word rest
  pub refused : IsRefused word

-- a quote that begins no character constant
pub record IsBadCharacter (text : List ℕ) : Type 0 where
  pub behind : List ℕ
  pub quote : text ≡ 39 ∷ behind
  pub no_character : (bytes rest : List ℕ) (n : ℕ) → IsCharacter bytes n → text ≢ bytes ++ rest
