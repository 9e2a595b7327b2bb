-- The steps of the reader, one after another.
use Rattle.std.proofs.Common.{◌≡◌, ℕ, zero, suc, ◌+◌, ◌-◌, ◌<◌, List, Result, Ok, Err, refl, ap, ◌∙◌, arith}
use Rattle.c_syntax.specs.declared.token.Token.{Token}
use Rattle.c_syntax.specs.declared.expression.BinaryOperator.{BinaryOperator}
use Rattle.c_syntax.specs.Trees.{ExpressionTree}
use Rattle.c_reader_tokens.specs.declared.fault.Fault.{Fault}
use Rattle.c_reader_tokens.specs.Reading.{◌>>=◌}
use Rattle.c_reader_expression_laws.specs.declared.next.Next.TheVariants.{Operator}
use Rattle.c_reader_expression_laws.specs.Operators.{next}
use Rattle.c_reader_expression_laws.specs.Operands.{Levels, operand}
use Rattle.c_reader_expression_laws.specs.Reading.{operated, if_fuel, chain, expression_at}

-- behind the first operand of an expression
pub behind_operand : (fuel level : ℕ) (ts : List Token) (left : ExpressionTree) (rest : List Token) → 0 < fuel → operand (expression_at (fuel - 1)) ts ≡ Ok (left, rest) → expression_at fuel level ts ≡ chain (expression_at (fuel - 1)) (fuel - 1) level (fuel - 1) left rest
unfolding expression_at
behind_operand zero level ts left rest lt e = absurd (omega arith)
behind_operand (suc fuel) level ts left rest lt e =
    let one : suc fuel - 1 ≡ fuel = omega arith in
    let read = rw one at e in
    rw (one, read) refl

-- behind an operator and its right operand
pub goes_on : (below : Levels) (fuel level count n : ℕ) (left : ExpressionTree) (ts : List Token) (o : BinaryOperator) (whole : ExpressionTree) (rest : List Token) → n < count → Operator o ≡ next level ts → if_fuel fuel left (operated below o left ts) ≡ Ok (whole, rest) → chain below fuel level (count - n) left ts ≡ chain below fuel level (count - (n + 1)) whole rest
unfolding chain
goes_on below fuel level count n left ts o whole rest lt is read =
    let one : count - n ≡ suc (count - (n + 1)) = omega arith in
    rw (one, ← is, read) refl

-- an operator that is refused, or whose right operand is
pub is_refused : (below : Levels) (fuel level count n : ℕ) (left : ExpressionTree) (ts : List Token) (o : BinaryOperator) (fault : Fault) → n < count → Operator o ≡ next level ts → if_fuel fuel left (operated below o left ts) ≡ Err fault → chain below fuel level (count - n) left ts ≡ Err fault
unfolding chain
is_refused below fuel level count n left ts o fault lt is read =
    let one : count - n ≡ suc (count - (n + 1)) = omega arith in
    rw (one, ← is, read) refl
