-- The type of an expression (C99 6.3.1.8 and 6.5).
use Rattle.std.specs.Prelude.{Option, Some, None}
use Rattle.c_syntax.specs.declared.constant.IntegerType.{IntegerType}
use Rattle.c_syntax.specs.declared.constant.IntegerType.TheVariants.{Int, Unsigned}
use Rattle.c_syntax.specs.declared.expression.UnaryOperator.{UnaryOperator}
use Rattle.c_syntax.specs.declared.expression.UnaryOperator.TheVariants as U
use Rattle.c_syntax.specs.declared.expression.BinaryOperator.{BinaryOperator}
use Rattle.c_syntax.specs.declared.expression.BinaryOperator.TheVariants as B
use Rattle.c_syntax.specs.Trees.{ExpressionTree}
use Rattle.c_syntax.specs.Trees as T
use Rattle.c_checker_rules.specs.declared.meaning.Meaning.{Meaning}
use Rattle.c_checker_rules.specs.declared.meaning.Meaning.TheVariants as M
use Rattle.c_checker_rules.specs.Names.{Scope, meaning_of}

-- the type that two operands are brought to
abbrev pub common : IntegerType → IntegerType → IntegerType
common Int t = t
common Unsigned t = Unsigned

-- the type of a variable; of what is none, any
abbrev pub variable_type : Option Meaning → IntegerType
variable_type None = Int
variable_type (Some (M.Local n t)) = t
variable_type (Some (M.Variable n t)) = t
variable_type (Some (M.Array n t)) = t
variable_type (Some (M.Function n)) = Int

abbrev pub unary_type : UnaryOperator → IntegerType → IntegerType
unary_type U.Minus t = t
unary_type U.Plus t = t
unary_type U.Complement t = t
unary_type U.Not t = Int

-- `&&`, `||` and comparisons give an `int`; a shift has its left operand's type
abbrev pub binary_type : BinaryOperator → IntegerType → IntegerType → IntegerType
binary_type B.LogicalOr s t = Int
binary_type B.LogicalAnd s t = Int
binary_type B.Or s t = common s t
binary_type B.Xor s t = common s t
binary_type B.And s t = common s t
binary_type B.Equal s t = Int
binary_type B.NotEqual s t = Int
binary_type B.Less s t = Int
binary_type B.Greater s t = Int
binary_type B.LessEqual s t = Int
binary_type B.GreaterEqual s t = Int
binary_type B.ShiftLeft s t = s
binary_type B.ShiftRight s t = s
binary_type B.Add s t = common s t
binary_type B.Subtract s t = common s t
binary_type B.Multiply s t = common s t
binary_type B.Divide s t = common s t
binary_type B.Remainder s t = common s t

abbrev pub type_of : Scope → ExpressionTree → IntegerType
type_of scope (T.Number c) = c.kind
type_of scope (T.Variable x) = variable_type (meaning_of scope x)
type_of scope (T.Element a e) = variable_type (meaning_of scope a)
type_of scope (T.Parenthesis e) = type_of scope e
type_of scope (T.Cast t e) = t
type_of scope (T.Unary o e) = unary_type o (type_of scope e)
type_of scope (T.Binary o a b) = binary_type o (type_of scope a) (type_of scope b)
type_of scope (T.Conditional c a b) = common (type_of scope a) (type_of scope b)
