-- How expressions are read, by precedence climbing: an operand, and behind it operators as long as they bind
-- at least as strongly as the level (C99 6.5.5 to 6.5.15). Fuel bounds the height of what is read.
use Rattle.std.specs.Prelude.{ℕ, zero, suc, nat_le, Result, Ok, Err, if◌then◌else◌}
use Rattle.c_syntax.specs.declared.punctuator.Punctuator.TheVariants.{Question, Colon}
use Rattle.c_syntax.specs.declared.expression.BinaryOperator.{BinaryOperator}
use Rattle.c_syntax.specs.Trees.{ExpressionTree, Binary, Conditional}
use Rattle.c_syntax.specs.Signs.{binary_sign, binding}
use Rattle.c_syntax.specs.Heights.{expression_height}
use Rattle.c_reader_tokens.specs.declared.fault.Fault.{Fault}
use Rattle.c_reader_tokens.specs.declared.fault.Fault.TheVariants.{TooDeep}
use Rattle.c_reader_tokens.specs.Reading.{Reading, ◌>>=◌, deep}
use Rattle.c_reader_tokens.specs.Tokens.{sign}
use Rattle.c_reader_expression_laws.specs.declared.next.Next.{Next}
use Rattle.c_reader_expression_laws.specs.declared.next.Next.TheVariants.{Operator, Choice, Stop}
use Rattle.c_reader_expression_laws.specs.Operators.{next, begins_operand}
use Rattle.c_reader_expression_laws.specs.Operands.{Levels, operand}

-- behind a left operand: an operator and the right operand, which has the next level
unfoldable pub operated : Levels → BinaryOperator → ExpressionTree → Reading ExpressionTree
operated below o left ts = do
  inner ← sign (binary_sign o) ts
  right ← below (suc (binding o)) inner
  Ok (Binary o left right.0, right.1)

-- behind a condition: `?`, a value, `:` and a value
unfoldable pub chosen : Levels → ExpressionTree → Reading ExpressionTree
chosen below condition ts = do
  inner ← sign Question ts
  a ← below 0 inner
  other ← sign Colon a.1
  b ← below 0 other
  Ok (Conditional condition a.0 b.0, b.1)

-- what becomes a part of something higher leaves fuel for that
abbrev pub if_fuel : {A : Type 0} → ℕ → ExpressionTree → Result A Fault → Result A Fault
if_fuel fuel part next = if nat_le (expression_height part) fuel then next else Err TooDeep

abbrev pub by_next : {A : Type 0} → Next → (BinaryOperator → A) → A → A → A
by_next (Operator o) operator choice stop = operator o
by_next Choice operator choice stop = choice
by_next Stop operator choice stop = stop

-- Behind a left operand, so many operators at most: each makes the whole higher, so there is no fuel for more.
unfoldable pub chain : Levels → (fuel level count : ℕ) → ExpressionTree → Reading ExpressionTree
chain below fuel level zero left ts = by_next (next level ts) (λ o. Err TooDeep) (Err TooDeep) (Ok (left, ts))
chain below fuel level (suc count) left ts =
    by_next (next level ts)
    (λ o. if_fuel fuel left (operated below o left ts) >>= (λ whole. chain below fuel level count whole.0 whole.1))
    (if_fuel fuel left (chosen below left ts))
    (Ok (left, ts))

-- an expression of a level that is at most as high as the fuel
unfoldable pub expression_at : (fuel level : ℕ) → Reading ExpressionTree
expression_at zero level ts = deep begins_operand ts
expression_at (suc fuel) level ts = do
  left ← operand (expression_at fuel) ts
  chain (expression_at fuel) fuel level fuel left.0 left.1
