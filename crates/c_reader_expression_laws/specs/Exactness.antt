-- What is read, and what the grammar spells.
use Rattle.std.specs.Prelude.{◌≡◌, ◌≤◌, ℕ, List, ◌++◌, Option, Ok, Err}
use Rattle.c_syntax.specs.declared.token.Token.{Token}
use Rattle.c_syntax.specs.Trees.{ExpressionTree}
use Rattle.c_syntax.specs.Expressions.{IsExpression, IsExpressionAt}
use Rattle.c_syntax.specs.Heights.{expression_height}
use Rattle.c_reader_tokens.specs.declared.fault.Fault.TheVariants.{Syntax}
use Rattle.c_reader_tokens.specs.Reading.{Takes}
use Rattle.c_reader_expression_laws.specs.Operators.{Ends}
use Rattle.c_reader_expression_laws.specs.Reading.{expression_at}

-- what is read is spelled by the tokens before the rest, and is low
abbrev pub ReadIsSpelled : Type 0
ReadIsSpelled = (fuel level : ℕ) (ts : List Token) (t : ExpressionTree) (rest : List Token) → expression_at fuel level ts ≡ Ok (t, rest) → Takes (IsExpressionAt level t) ts rest × (expression_height t ≤ fuel)

-- what is spelled, is low and ends there is read
abbrev pub SpelledIsRead : Type 0
SpelledIsRead = (fuel level : ℕ) (t : ExpressionTree) (ts rest : List Token) → IsExpressionAt level t ts → expression_height t ≤ fuel → Ends level rest → expression_at fuel level (ts ++ rest) ≡ Ok (t, rest)

-- where there is a fault of syntax no expression is spelled, however high
abbrev pub FaultIsDue : Type 0
FaultIsDue = (fuel level : ℕ) (ts : List Token) (place : Option ℕ) → expression_at fuel level ts ≡ Err (Syntax place) → (t : ExpressionTree) (front rest : List Token) → IsExpressionAt level t front → Ends level rest → ts ≡ front ++ rest → ⊥

-- no two trees are spelled by the same tokens
abbrev pub OneTree : Type 0
OneTree = (t u : ExpressionTree) (ts : List Token) → IsExpression t ts → IsExpression u ts → t ≡ u
