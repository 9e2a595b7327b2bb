-- Which operators the signs of compound assignments stand for (C99 6.5.16.2), and `++` and `--` (C99 6.5.2.4 and 6.5.3.1).
use Rattle.std.specs.Prelude.{Bool, List, Option, Some, None, is_some}
use Rattle.c_syntax.specs.declared.punctuator.Punctuator.{Punctuator}
use Rattle.c_syntax.specs.declared.punctuator.Punctuator.TheVariants as P
use Rattle.c_syntax.specs.declared.token.Token.{Token}
use Rattle.c_syntax.specs.declared.token.TokenKind.{TokenKind}
use Rattle.c_syntax.specs.declared.token.TokenKind.TheVariants as T
use Rattle.c_syntax.specs.declared.expression.AssignOperator.{AssignOperator}
use Rattle.c_syntax.specs.declared.expression.AssignOperator.TheVariants as A
use Rattle.c_reader_tokens.specs.Reading.{Reading}
use Rattle.c_reader_tokens.specs.Peeking.{is_next}
use Rattle.c_reader_tokens.specs.Tokens.{valued}

abbrev pub assign_of : Punctuator → Option AssignOperator
assign_of P.StarAssign = Some A.Multiply
assign_of P.SlashAssign = Some A.Divide
assign_of P.PercentAssign = Some A.Remainder
assign_of P.PlusAssign = Some A.Add
assign_of P.MinusAssign = Some A.Subtract
assign_of P.ShiftLeftAssign = Some A.ShiftLeft
assign_of P.ShiftRightAssign = Some A.ShiftRight
assign_of P.AndAssign = Some A.And
assign_of P.CaretAssign = Some A.Xor
assign_of P.OrAssign = Some A.Or
assign_of _ = None

-- `++` adds and `--` subtracts
abbrev pub step_of : Punctuator → Option AssignOperator
step_of P.Increment = Some A.Add
step_of P.Decrement = Some A.Subtract
step_of _ = None

-- what a sign stands for, where a token is one
abbrev pub of_sign : (Punctuator → Option AssignOperator) → TokenKind → Option AssignOperator
of_sign meaning (T.Name x) = None
of_sign meaning (T.Constant c) = None
of_sign meaning (T.Keyword k) = None
of_sign meaning (T.Punctuator p) = meaning p

unfoldable pub assign_operator : Reading AssignOperator
assign_operator ts = valued (λ t. of_sign assign_of t.kind) ts

unfoldable pub step_operator : Reading AssignOperator
step_operator ts = valued (λ t. of_sign step_of t.kind) ts

abbrev pub is_step : TokenKind → Bool
is_step kind = is_some (of_sign step_of kind)

-- `++` or `--` is next
abbrev pub is_step_next : List Token → Bool
is_step_next ts = is_next is_step ts
