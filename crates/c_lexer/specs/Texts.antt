-- The tokens of a text, and its first fault.
use Rattle.std.specs.Prelude.{◌≡◌, ℕ, ◌+◌, List, [], ◌∷◌, ◌++◌, length, Option, Some, None, flat_map}
use Rattle.c_syntax.specs.declared.token.Token.{Token}
use Rattle.c_syntax.specs.declared.token.TokenKind.{TokenKind}
use Rattle.c_lexer.specs.declared.errors.LexError.{LexError}
use Rattle.c_lexer.specs.FaultsAt.{IsFaultAt}
use Rattle.c_lexer_lexemes.specs.Parts.{IsPart}

-- a part: its bytes, and the token that it is, or none
pub record Part : Type 0 where
  pub bytes : List ℕ
  pub kind : Option TokenKind

abbrev pub bytes_of : List Part → List ℕ
bytes_of parts = flat_map (λ p. p.bytes) parts

-- each is a part of the text, before what follows it
abbrev pub AreParts : List Part → List ℕ → Type 0
AreParts [] rest = Unit {0}
AreParts (p ∷ parts) rest = IsPart p.kind p.bytes (bytes_of parts ++ rest) × AreParts parts rest

-- the token of a part at an offset, with the offsets of its first byte and of the byte behind it
abbrev pub token_of : ℕ → List ℕ → Option TokenKind → List Token
token_of at bytes None = []
token_of at bytes (Some kind) = record { kind = kind; start = at; end = at + length bytes } ∷ []

-- the tokens of parts that begin at an offset
abbrev pub tokens_of : ℕ → List Part → List Token
tokens_of at [] = []
tokens_of at (p ∷ parts) = token_of at p.bytes p.kind ++ tokens_of (at + length p.bytes) parts

-- The text can be cut into parts with these tokens up to the offset, and this is left.
pub record ReadsTo (text : List ℕ) (tokens : List Token) (offset : ℕ) (rest : List ℕ) : Type 0 where
  pub parts : List Part
  pub are_parts : AreParts parts rest
  pub whole : text ≡ bytes_of parts ++ rest
  pub tokens_are : tokens ≡ tokens_of 0 parts
  pub offset_is : offset ≡ length (bytes_of parts)

-- These are the tokens of the text.
abbrev pub HasTokens : List ℕ → List Token → Type 0
HasTokens text tokens = ReadsTo text tokens (length text) []

-- The text has tokens up to this fault, which is the first.
pub record HasFault (text : List ℕ) (e : LexError) : Type 0 where
  pub tokens : List Token
  pub offset : ℕ
  pub rest : List ℕ
  pub reads : ReadsTo text tokens offset rest
  pub fault : IsFaultAt offset rest e
