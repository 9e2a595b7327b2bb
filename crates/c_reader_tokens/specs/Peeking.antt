-- What the next tokens are.
use Rattle.std.specs.Prelude.{Bool, true, false, ◌&&◌, ◌||◌, List, [], ◌∷◌}
use Rattle.c_syntax.specs.declared.keyword.Keyword.{Keyword}
use Rattle.c_syntax.specs.declared.keyword.Keyword.TheVariants as K
use Rattle.c_syntax.specs.contracts.keyword.KeywordPartialEq.TheImpl as keyword_eq
use Rattle.c_syntax.specs.declared.punctuator.Punctuator.{Punctuator}
use Rattle.c_syntax.specs.declared.punctuator.Punctuator.TheVariants.{LeftParenthesis}
use Rattle.c_syntax.specs.contracts.punctuator.PunctuatorPartialEq.TheImpl as punctuator_eq
use Rattle.c_syntax.specs.declared.token.Token.{Token}
use Rattle.c_syntax.specs.declared.token.TokenKind.{TokenKind}
use Rattle.c_syntax.specs.declared.token.TokenKind.TheVariants as T

abbrev pub is_sign : Punctuator → TokenKind → Bool
is_sign p (T.Name x) = false
is_sign p (T.Constant c) = false
is_sign p (T.Keyword k) = false
is_sign p (T.Punctuator q) = (punctuator_eq.ghosts).eq q p

abbrev pub is_word : Keyword → TokenKind → Bool
is_word k (T.Name x) = false
is_word k (T.Constant c) = false
is_word k (T.Keyword l) = (keyword_eq.ghosts).eq l k
is_word k (T.Punctuator p) = false

abbrev pub is_name : TokenKind → Bool
is_name (T.Name x) = true
is_name (T.Constant c) = false
is_name (T.Keyword k) = false
is_name (T.Punctuator p) = false

-- the next token passes a test
abbrev pub is_next : (TokenKind → Bool) → List Token → Bool
is_next passes [] = false
is_next passes (t ∷ ts) = passes t.kind

abbrev pub is_sign_next : Punctuator → List Token → Bool
is_sign_next p ts = is_next (is_sign p) ts

abbrev pub is_word_next : Keyword → List Token → Bool
is_word_next k ts = is_next (is_word k) ts

abbrev pub is_name_next : List Token → Bool
is_name_next ts = is_next is_name ts

-- a type begins with `int` or `unsigned`
abbrev pub is_type_next : List Token → Bool
is_type_next ts = is_word_next K.Int ts || is_word_next K.Unsigned ts

-- a call begins with a name and `(`
abbrev pub is_call_next : List Token → Bool
is_call_next [] = false
is_call_next (t ∷ ts) = is_name t.kind && is_sign_next LeftParenthesis ts
