-- What an expression of several parts is.
use Rattle.std.specs.Prelude.{◌≡◌}
use Rattle.c_syntax.specs.declared.expression.Expression.{Expression}
use Rattle.c_syntax.specs.declared.expression.BinaryOperator.{BinaryOperator}
use Rattle.c_syntax.specs.Trees.{Binary, Conditional}
use Rattle.c_syntax.specs.Views.{expression_tree}

-- an operator on two expressions
abbrev pub IsBinary : Expression → BinaryOperator → Expression → Expression → Type 0
IsBinary e operator left right = expression_tree e ≡ Binary operator (expression_tree left) (expression_tree right)

-- one of two expressions, by a third
abbrev pub IsChoice : Expression → Expression → Expression → Expression → Type 0
IsChoice e condition then other =
    expression_tree e ≡ Conditional (expression_tree condition) (expression_tree then) (expression_tree other)
