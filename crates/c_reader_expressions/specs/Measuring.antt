-- What the readers of expressions answer, by what they are to read.
use Rattle.std.specs.Prelude.{◌≡◌, ◌≢◌, ℕ, List, Ok, Err}
use Rattle.c_syntax.specs.declared.token.Token.{Token}
use Rattle.c_syntax.specs.declared.expression.BinaryOperator.{BinaryOperator}
use Rattle.c_syntax.specs.Trees.{ExpressionTree}
use Rattle.c_syntax.specs.Views.{expression_tree}
use Rattle.c_reader_tokens.specs.declared.fault.Fault.{Fault}
use Rattle.c_reader_tokens.specs.declared.fault.Fault.TheVariants.{NoMemory}
use Rattle.c_reader_tokens.specs.Reading.{Reading}
use Rattle.c_reader_expression_laws.specs.Reading.{operated, chosen, if_fuel, chain, expression_at}
use Rattle.c_reader_expressions.specs.declared.measured.Measured.{Measured}

-- This expression is read, and these tokens are left.
abbrev pub Reads : Reading ExpressionTree → List Token → Measured → List Token → Type 0
Reads reading tokens made rest = reading tokens ≡ Ok (expression_tree made.expression, rest)

-- This fault is met first; out of memory says nothing of the tokens.
abbrev pub Meets : Reading ExpressionTree → List Token → Fault → Type 0
Meets reading tokens fault = fault ≢ NoMemory → reading tokens ≡ Err fault

-- behind a left operand: the operators that bind at least as strongly as the level
abbrev pub operators_behind : (below level : ℕ) → Measured → Reading ExpressionTree
operators_behind below level left tokens = chain (expression_at below) below level below (expression_tree left.expression) tokens

-- behind a left operand that leaves fuel for an operator above it: this operator, and its right operand
abbrev pub operator_behind : ℕ → BinaryOperator → Measured → Reading ExpressionTree
operator_behind below operator left tokens =
    if_fuel below (expression_tree left.expression) (operated (expression_at below) operator (expression_tree left.expression) tokens)

-- behind a condition that leaves fuel for a choice above it: `?`, a value, `:` and a value
abbrev pub choice_behind : ℕ → Measured → Reading ExpressionTree
choice_behind below condition tokens =
    if_fuel below (expression_tree condition.expression) (chosen (expression_at below) (expression_tree condition.expression) tokens)
