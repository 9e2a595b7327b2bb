-- The term that an expression stands for (C99 6.5): its names are resolved, and its operators are chosen by the types of
-- their operands. A conversion between the two types keeps the word (6.3.1.3), so a cast and unary `+` leave the
-- term as it is. Where a name is not declared as a variable, any term would do: such an expression is not well formed.
use Rattle.std.specs.Prelude.{ℕ, Option, Some, None}
use Rattle.c_syntax.specs.declared.constant.IntegerType.{IntegerType}
use Rattle.c_syntax.specs.declared.constant.IntegerType.TheVariants.{Int, Unsigned}
use Rattle.c_program.specs.Op.{Op}
use Rattle.c_program.specs.Op.TheVariants as O
use Rattle.c_syntax.specs.declared.expression.UnaryOperator.{UnaryOperator}
use Rattle.c_syntax.specs.declared.expression.UnaryOperator.TheVariants as U
use Rattle.c_syntax.specs.declared.expression.BinaryOperator.{BinaryOperator}
use Rattle.c_syntax.specs.declared.expression.BinaryOperator.TheVariants as B
use Rattle.c_syntax.specs.declared.expression.AssignOperator.{AssignOperator}
use Rattle.c_syntax.specs.declared.expression.AssignOperator.TheVariants as A
use Rattle.c_syntax.specs.Trees.{ExpressionTree}
use Rattle.c_syntax.specs.Trees as T
use Rattle.c_program.specs.Trees.{TermTree}
use Rattle.c_program.specs.Trees as P
use Rattle.c_checker_rules.specs.declared.meaning.Meaning.{Meaning}
use Rattle.c_checker_rules.specs.declared.meaning.Meaning.TheVariants as M
use Rattle.c_checker_rules.specs.Names.{Scope, meaning_of}
use Rattle.c_checker_rules.specs.Types.{common, type_of}

-- a variable without size is its cell 0
abbrev pub variable_term : Option Meaning → TermTree
variable_term None = P.Constant 0
variable_term (Some (M.Local n t)) = P.Local n
variable_term (Some (M.Variable n t)) = P.Cell n (P.Constant 0)
variable_term (Some (M.Array n t)) = P.Constant 0
variable_term (Some (M.Function n)) = P.Constant 0

-- the number of an array
abbrev pub array_number : Option Meaning → ℕ
array_number None = 0
array_number (Some (M.Local n t)) = 0
array_number (Some (M.Variable n t)) = 0
array_number (Some (M.Array n t)) = n
array_number (Some (M.Function n)) = 0

-- the operator for `int`, or the one for `unsigned int`
abbrev pub by_type : IntegerType → Op → Op → Op
by_type Int s u = s
by_type Unsigned s u = u

abbrev pub unary_term : UnaryOperator → IntegerType → TermTree → TermTree
unary_term U.Minus t e = P.Unary (by_type t O.NegS O.NegU) e
unary_term U.Plus t e = e
unary_term U.Complement t e = P.Unary O.Not e
unary_term U.Not t e = P.Unary O.IsZero e

-- `a > b` is `b < a`, and `a >= b` is `b <= a`; s and t are the types of a and b
abbrev pub binary_term : BinaryOperator → IntegerType → IntegerType → TermTree → TermTree → TermTree
binary_term B.LogicalOr s t a b = P.Either a b
binary_term B.LogicalAnd s t a b = P.Both a b
binary_term B.Or s t a b = P.Binary O.Or a b
binary_term B.Xor s t a b = P.Binary O.Xor a b
binary_term B.And s t a b = P.Binary O.And a b
binary_term B.Equal s t a b = P.Binary O.Eq a b
binary_term B.NotEqual s t a b = P.Binary O.Ne a b
binary_term B.Less s t a b = P.Binary (by_type (common s t) O.LtS O.LtU) a b
binary_term B.Greater s t a b = P.Binary (by_type (common s t) O.LtS O.LtU) b a
binary_term B.LessEqual s t a b = P.Binary (by_type (common s t) O.LeS O.LeU) a b
binary_term B.GreaterEqual s t a b = P.Binary (by_type (common s t) O.LeS O.LeU) b a
binary_term B.ShiftLeft s t a b = P.Binary (by_type s O.ShlS O.ShlU) a b
binary_term B.ShiftRight s t a b = P.Binary (by_type s O.ShrS O.ShrU) a b
binary_term B.Add s t a b = P.Binary (by_type (common s t) O.AddS O.AddU) a b
binary_term B.Subtract s t a b = P.Binary (by_type (common s t) O.SubS O.SubU) a b
binary_term B.Multiply s t a b = P.Binary (by_type (common s t) O.MulS O.MulU) a b
binary_term B.Divide s t a b = P.Binary (by_type (common s t) O.DivS O.DivU) a b
binary_term B.Remainder s t a b = P.Binary (by_type (common s t) O.ModS O.ModU) a b

-- the operator of a compound assignment (6.5.16.2): s and t are the types of the lvalue and of the value
abbrev pub change_operator : AssignOperator → IntegerType → IntegerType → Op
change_operator A.Multiply s t = by_type (common s t) O.MulS O.MulU
change_operator A.Divide s t = by_type (common s t) O.DivS O.DivU
change_operator A.Remainder s t = by_type (common s t) O.ModS O.ModU
change_operator A.Add s t = by_type (common s t) O.AddS O.AddU
change_operator A.Subtract s t = by_type (common s t) O.SubS O.SubU
change_operator A.ShiftLeft s t = by_type s O.ShlS O.ShlU
change_operator A.ShiftRight s t = by_type s O.ShrS O.ShrU
change_operator A.And s t = O.And
change_operator A.Xor s t = O.Xor
change_operator A.Or s t = O.Or

abbrev pub term_of : Scope → ExpressionTree → TermTree
term_of scope (T.Number c) = P.Constant c.value
term_of scope (T.Variable x) = variable_term (meaning_of scope x)
term_of scope (T.Element a e) = P.Cell (array_number (meaning_of scope a)) (term_of scope e)
term_of scope (T.Parenthesis e) = term_of scope e
term_of scope (T.Cast t e) = term_of scope e
term_of scope (T.Unary o e) = unary_term o (type_of scope e) (term_of scope e)
term_of scope (T.Binary o a b) = binary_term o (type_of scope a) (type_of scope b) (term_of scope a) (term_of scope b)
term_of scope (T.Conditional c a b) = P.Conditional (term_of scope c) (term_of scope a) (term_of scope b)
