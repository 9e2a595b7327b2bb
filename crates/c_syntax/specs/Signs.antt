-- The sign of each operator, and how strongly a binary one binds: from 1, the weakest, to 10 (C99 6.5.3 to 6.5.14 and 6.5.16).
use Rattle.std.specs.Prelude.{ℕ}
use Rattle.c_syntax.specs.declared.punctuator.Punctuator.{Punctuator}
use Rattle.c_syntax.specs.declared.punctuator.Punctuator.TheVariants as P
use Rattle.c_syntax.specs.declared.expression.UnaryOperator.{UnaryOperator}
use Rattle.c_syntax.specs.declared.expression.UnaryOperator.TheVariants as U
use Rattle.c_syntax.specs.declared.expression.BinaryOperator.{BinaryOperator}
use Rattle.c_syntax.specs.declared.expression.BinaryOperator.TheVariants as B
use Rattle.c_syntax.specs.declared.expression.AssignOperator.{AssignOperator}
use Rattle.c_syntax.specs.declared.expression.AssignOperator.TheVariants as A

abbrev pub unary_sign : UnaryOperator → Punctuator
unary_sign U.Minus = P.Minus
unary_sign U.Plus = P.Plus
unary_sign U.Complement = P.Tilde
unary_sign U.Not = P.Exclamation

abbrev pub binary_sign : BinaryOperator → Punctuator
binary_sign B.LogicalOr = P.OrOr
binary_sign B.LogicalAnd = P.AndAnd
binary_sign B.Or = P.Or
binary_sign B.Xor = P.Caret
binary_sign B.And = P.And
binary_sign B.Equal = P.Equal
binary_sign B.NotEqual = P.NotEqual
binary_sign B.Less = P.Less
binary_sign B.Greater = P.Greater
binary_sign B.LessEqual = P.LessEqual
binary_sign B.GreaterEqual = P.GreaterEqual
binary_sign B.ShiftLeft = P.ShiftLeft
binary_sign B.ShiftRight = P.ShiftRight
binary_sign B.Add = P.Plus
binary_sign B.Subtract = P.Minus
binary_sign B.Multiply = P.Star
binary_sign B.Divide = P.Slash
binary_sign B.Remainder = P.Percent

-- A level of 0 is that of a whole expression, `?:` among them; 11 is that of an operand.
abbrev pub binding : BinaryOperator → ℕ
binding B.LogicalOr = 1
binding B.LogicalAnd = 2
binding B.Or = 3
binding B.Xor = 4
binding B.And = 5
binding B.Equal = 6
binding B.NotEqual = 6
binding B.Less = 7
binding B.Greater = 7
binding B.LessEqual = 7
binding B.GreaterEqual = 7
binding B.ShiftLeft = 8
binding B.ShiftRight = 8
binding B.Add = 9
binding B.Subtract = 9
binding B.Multiply = 10
binding B.Divide = 10
binding B.Remainder = 10

abbrev pub operand_level : ℕ
operand_level = 11

-- the sign of a compound assignment
abbrev pub assign_sign : AssignOperator → Punctuator
assign_sign A.Multiply = P.StarAssign
assign_sign A.Divide = P.SlashAssign
assign_sign A.Remainder = P.PercentAssign
assign_sign A.Add = P.PlusAssign
assign_sign A.Subtract = P.MinusAssign
assign_sign A.ShiftLeft = P.ShiftLeftAssign
assign_sign A.ShiftRight = P.ShiftRightAssign
assign_sign A.And = P.AndAssign
assign_sign A.Xor = P.CaretAssign
assign_sign A.Or = P.OrAssign

-- the operator that it applies
abbrev pub binary_of : AssignOperator → BinaryOperator
binary_of A.Multiply = B.Multiply
binary_of A.Divide = B.Divide
binary_of A.Remainder = B.Remainder
binary_of A.Add = B.Add
binary_of A.Subtract = B.Subtract
binary_of A.ShiftLeft = B.ShiftLeft
binary_of A.ShiftRight = B.ShiftRight
binary_of A.And = B.And
binary_of A.Xor = B.Xor
binary_of A.Or = B.Or
