-- The parts that a text is cut into: white space, comments (C99 6.4.9) and tokens.
use Rattle.std.specs.Prelude.{◌≡◌, ◌≢◌, ℕ, ◌≤◌, ◌⊎◌, List, [], ◌∷◌, ◌++◌, length, IsTrue, Option, Some, None, All, codes}
use Rattle.c_syntax.specs.declared.token.TokenKind.{TokenKind}
use Rattle.c_lexer_lexemes.specs.Bytes.{is_white}
use Rattle.c_lexer_lexemes.specs.Lexemes.{IsLongest, Spells}

-- a line ends here, or the text
abbrev pub IsLineEnd : List ℕ → Type 0
IsLineEnd [] = Unit {0}
IsLineEnd (b ∷ rest) = b ≡ 10

-- no `*/` begins within the body of a comment that is closed behind it
abbrev pub ClosesFirst : List ℕ → List ℕ → Type 0
ClosesFirst body rest = (before behind : List ℕ) → body ++ (codes "*/" ++ rest) ≡ before ++ (codes "*/" ++ behind) → length body ≤ length before

-- Before this rest the bytes are one byte of white space or a whole comment.
pub data IsGap (bytes rest : List ℕ) : Type 0 where
  white : (b : ℕ) → IsTrue (is_white b) → bytes ≡ b ∷ [] → IsGap bytes rest
  line : (body : List ℕ) → bytes ≡ codes "//" ++ body → All (λ b. b ≢ 10) body → IsLineEnd rest → IsGap bytes rest
  block : (body : List ℕ) → bytes ≡ codes "/*" ++ (body ++ codes "*/") → ClosesFirst body rest → IsGap bytes rest

abbrev pub BeginsComment : List ℕ → Type 0
BeginsComment text = (rest : List ℕ) × ((text ≡ codes "//" ++ rest) ⊎ (text ≡ codes "/*" ++ rest))

-- Before this rest the bytes are this token.
pub record IsToken (kind : TokenKind) (bytes rest : List ℕ) : Type 0 where
  pub spelled : Spells kind bytes
  pub longest : IsLongest bytes rest
  pub no_comment : BeginsComment (bytes ++ rest) → ⊥

-- Before this rest the bytes are a part of the text: a token, or a gap.
abbrev pub IsPart : Option TokenKind → List ℕ → List ℕ → Type 0
IsPart None bytes rest = IsGap bytes rest
IsPart (Some kind) bytes rest = IsToken kind bytes rest
