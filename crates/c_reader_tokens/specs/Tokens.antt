-- How single tokens and types are read.
use Rattle.std.specs.Prelude.{ℕ, Bool, List, [], ◌∷◌, Option, Some, None, Result, Ok, if◌then◌else◌}
use Rattle.c_syntax.specs.declared.constant.Constant.{Constant}
use Rattle.c_syntax.specs.declared.constant.IntegerType.{IntegerType}
use Rattle.c_syntax.specs.declared.constant.IntegerType.TheVariants.{Int, Unsigned}
use Rattle.c_syntax.specs.declared.keyword.Keyword.{Keyword}
use Rattle.c_syntax.specs.declared.keyword.Keyword.TheVariants as K
use Rattle.c_syntax.specs.declared.punctuator.Punctuator.{Punctuator}
use Rattle.c_syntax.specs.declared.token.Token.{Token}
use Rattle.c_syntax.specs.declared.token.TokenKind.{TokenKind}
use Rattle.c_syntax.specs.declared.token.TokenKind.TheVariants as T
use Rattle.c_syntax.specs.declared.identifier.Identifier.{Identifier}
use Rattle.c_reader_tokens.specs.declared.fault.Fault.{Fault}
use Rattle.c_reader_tokens.specs.Reading.{Reading, ◌>>=◌, misfit}
use Rattle.c_reader_tokens.specs.Peeking.{is_sign, is_word, is_word_next}

-- one token that passes a test; what is left is the tokens behind it
abbrev pub passed : (TokenKind → Bool) → List Token → Result (List Token) Fault
passed passes [] = misfit []
passed passes (t ∷ ts) = if passes t.kind then Ok ts else misfit (t ∷ ts)

unfoldable pub sign : Punctuator → List Token → Result (List Token) Fault
sign p ts = passed (is_sign p) ts

unfoldable pub word : Keyword → List Token → Result (List Token) Fault
word k ts = passed (is_word k) ts

-- one token that stands for a value
abbrev pub given : {A : Type 0} → Option A → Token → Reading A
given None t ts = misfit (t ∷ ts)
given (Some x) t ts = Ok (x, ts)

abbrev pub valued : {A : Type 0} → (Token → Option A) → Reading A
valued value_of [] = misfit []
valued value_of (t ∷ ts) = given (value_of t) t ts

-- where the token begins, if it passes a test
abbrev pub place_where : (TokenKind → Bool) → Token → Option ℕ
place_where passes t = if passes t.kind then Some t.start else None

abbrev pub name_at : ℕ → TokenKind → Option Identifier
name_at at (T.Name x) = Some (record { name = x; offset = at })
name_at at (T.Constant c) = None
name_at at (T.Keyword k) = None
name_at at (T.Punctuator p) = None

abbrev pub constant_of : TokenKind → Option Constant
constant_of (T.Name x) = None
constant_of (T.Constant c) = Some c
constant_of (T.Keyword k) = None
constant_of (T.Punctuator p) = None

-- a keyword and its place
unfoldable pub placed_word : Keyword → Reading ℕ
placed_word k ts = valued (place_where (is_word k)) ts

-- a name and its place
unfoldable pub placed_name : Reading Identifier
placed_name ts = valued (λ t. name_at t.start t.kind) ts

unfoldable pub constant : Reading Constant
constant ts = valued (λ t. constant_of t.kind) ts

-- `unsigned`, and `int` where it is next
abbrev pub unsigned_type : Reading IntegerType
unsigned_type ts = do
  rest ← word K.Unsigned ts
  if is_word_next K.Int rest then word K.Int rest >>= (λ more. Ok (Unsigned, more)) else Ok (Unsigned, rest)

-- `int`, `unsigned` or `unsigned int`
unfoldable pub integer_type : Reading IntegerType
integer_type ts = if is_word_next K.Int ts then word K.Int ts >>= (λ rest. Ok (Int, rest)) else unsigned_type ts
