-- Which operators the signs stand for (C99 6.5.3 to 6.5.14), and how an expression goes on.
use Rattle.std.specs.Prelude.{◌≡◌, ℕ, Bool, true, false, List, [], ◌∷◌, Option, Some, None, is_some, nat_le, ◌==◌, ◌||◌, if◌then◌else◌}
use Rattle.c_syntax.specs.declared.punctuator.Punctuator.{Punctuator}
use Rattle.c_syntax.specs.declared.punctuator.Punctuator.TheVariants as P
use Rattle.c_syntax.specs.declared.token.Token.{Token}
use Rattle.c_syntax.specs.declared.token.TokenKind.{TokenKind}
use Rattle.c_syntax.specs.declared.token.TokenKind.TheVariants as T
use Rattle.c_syntax.specs.declared.expression.UnaryOperator.{UnaryOperator}
use Rattle.c_syntax.specs.declared.expression.UnaryOperator.TheVariants as U
use Rattle.c_syntax.specs.declared.expression.BinaryOperator.{BinaryOperator}
use Rattle.c_syntax.specs.declared.expression.BinaryOperator.TheVariants as B
use Rattle.c_syntax.specs.Signs.{binding}
use Rattle.c_reader_tokens.specs.Peeking.{is_sign, is_sign_next}
use Rattle.c_reader_expression_laws.specs.declared.next.Next.{Next}
use Rattle.c_reader_expression_laws.specs.declared.next.Next.TheVariants.{Operator, Choice, Stop}

abbrev pub unary_of : Punctuator → Option UnaryOperator
unary_of P.Minus = Some U.Minus
unary_of P.Plus = Some U.Plus
unary_of P.Tilde = Some U.Complement
unary_of P.Exclamation = Some U.Not
unary_of _ = None

abbrev pub binary_of : Punctuator → Option BinaryOperator
binary_of P.OrOr = Some B.LogicalOr
binary_of P.AndAnd = Some B.LogicalAnd
binary_of P.Or = Some B.Or
binary_of P.Caret = Some B.Xor
binary_of P.And = Some B.And
binary_of P.Equal = Some B.Equal
binary_of P.NotEqual = Some B.NotEqual
binary_of P.Less = Some B.Less
binary_of P.Greater = Some B.Greater
binary_of P.LessEqual = Some B.LessEqual
binary_of P.GreaterEqual = Some B.GreaterEqual
binary_of P.ShiftLeft = Some B.ShiftLeft
binary_of P.ShiftRight = Some B.ShiftRight
binary_of P.Plus = Some B.Add
binary_of P.Minus = Some B.Subtract
binary_of P.Star = Some B.Multiply
binary_of P.Slash = Some B.Divide
binary_of P.Percent = Some B.Remainder
binary_of _ = None

-- the operators that a token stands for
abbrev pub unary_at : TokenKind → Option UnaryOperator
unary_at (T.Name x) = None
unary_at (T.Constant c) = None
unary_at (T.Keyword k) = None
unary_at (T.Punctuator p) = unary_of p

abbrev pub binary_at : TokenKind → Option BinaryOperator
binary_at (T.Name x) = None
binary_at (T.Constant c) = None
binary_at (T.Keyword k) = None
binary_at (T.Punctuator p) = binary_of p

-- An operator is taken where it binds at least as strongly as the level.
abbrev pub taken_at : ℕ → Option BinaryOperator → Next
taken_at level None = Stop
taken_at level (Some o) = if nat_le level (binding o) then Operator o else Stop

-- how an expression of a level goes on with a token
abbrev pub next_at : ℕ → TokenKind → Next
next_at level kind = if is_sign P.Question kind then (if level == 0 then Choice else Stop) else taken_at level (binary_at kind)

unfoldable pub next : ℕ → List Token → Next
next level [] = Stop
next level (t ∷ ts) = next_at level t.kind

-- An expression of this level does not go on with these tokens.
abbrev pub Stops : ℕ → List Token → Type 0
Stops level ts = next level ts ≡ Stop

-- The same, and no name before them is an array's.
pub record Ends (level : ℕ) (ts : List Token) : Type 0 where
  pub stops : Stops level ts
  pub no_index : is_sign_next P.LeftBracket ts ≡ false

-- an operand begins with a name, a constant, `(` or a sign
abbrev pub begins_operand : TokenKind → Bool
begins_operand (T.Name x) = true
begins_operand (T.Constant c) = true
begins_operand (T.Keyword k) = false
begins_operand (T.Punctuator p) = is_sign P.LeftParenthesis (T.Punctuator p) || is_some (unary_of p)
