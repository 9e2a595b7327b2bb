-- What the reader of a text answers.
use Rattle.std.specs.Prelude.{◌≡◌, List, Result, MatchResult}
use Rattle.std.specs.Global.{Vec}
use Rattle.c_syntax.specs.declared.token.Token.{Token}
use Rattle.c_lexer.specs.declared.errors.LexError.{LexError}
use Rattle.c_lexer.specs.declared.errors.LexError.TheVariants.{NoMemory}

-- these tokens, or that memory ran out
abbrev pub GivesTokens : List Token → Result (Vec Token) LexError → Type 0
GivesTokens tokens result = MatchResult result (λ v. v.items ≡ tokens) (λ e. e ≡ NoMemory)
