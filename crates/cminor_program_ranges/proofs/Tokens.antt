-- The tokens of a text that are names are spelled as C names.
use Rattle.std.proofs.Common.{ℕ, ◌+◌, List, [], ◌∷◌, ◌++◌, length, Option, Some, None, sym, subst}
use Rattle.std.specs.List.{AllByRecursion}
use Rattle.c_syntax.specs.declared.token.Token.{Token}
use Rattle.c_syntax.specs.declared.token.TokenKind.{TokenKind}
use Rattle.c_syntax.specs.declared.token.TokenKind.TheVariants as kinds
use Rattle.c_lexer_lexemes.specs.Lexemes.{IsName, Spells}
use Rattle.c_lexer_lexemes.specs.Parts.{IsPart}
use Rattle.c_lexer.specs.Texts.{Part, bytes_of, AreParts, token_of, tokens_of, HasTokens}

-- a token that is a name
abbrev pub IsNamed : TokenKind → Type 0
IsNamed (kinds.Name name) = IsName name
IsNamed (kinds.Constant c) = Unit {0}
IsNamed (kinds.Keyword k) = Unit {0}
IsNamed (kinds.Punctuator p) = Unit {0}

abbrev pub AreNamed : List Token → Type 0
AreNamed ts = AllByRecursion (λ t. IsNamed t.kind) ts

spelled_named : (kind : TokenKind) (bytes : List ℕ) → Spells kind bytes → IsNamed kind
spelled_named (kinds.Name name) bytes is = subst IsName (sym is.0) is.1
spelled_named (kinds.Constant c) bytes is = tt
spelled_named (kinds.Keyword k) bytes is = tt
spelled_named (kinds.Punctuator p) bytes is = tt

both : (ts us : List Token) → AreNamed ts → AreNamed us → AreNamed (ts ++ us)
both [] us first second = second
both (t ∷ ts) us first second = (first.0, both ts us first.1 second)

token_named : (at : ℕ) (bytes rest : List ℕ) (kind : Option TokenKind) → IsPart kind bytes rest → AreNamed (token_of at bytes kind)
token_named at bytes rest None is = tt
token_named at bytes rest (Some kind) is = (spelled_named kind bytes is.spelled, tt)

tokens_named : (at : ℕ) (parts : List Part) (rest : List ℕ) → AreParts parts rest → AreNamed (tokens_of at parts)
tokens_named at [] rest are = tt
tokens_named at (p ∷ parts) rest are =
    both (token_of at p.bytes p.kind) (tokens_of (at + length p.bytes) parts) (token_named at p.bytes (bytes_of parts ++ rest) p.kind are.0)
    (tokens_named (at + length p.bytes) parts rest are.1)

pub text_named : (text : List ℕ) (tokens : List Token) → HasTokens text tokens → AreNamed tokens
text_named text tokens has = subst AreNamed (sym has.tokens_are) (tokens_named 0 has.parts [] has.are_parts)
