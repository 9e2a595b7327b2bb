-- What is done to an lvalue (C99 6.5.16): it becomes something, or it is changed by an operator and a value. The number
-- is the fuel.
use Rattle.std.specs.Prelude.{ℕ}
use Rattle.c_syntax.specs.declared.punctuator.Punctuator.TheVariants.{Assign}
use Rattle.c_syntax.specs.declared.expression.AssignOperator.{AssignOperator}
use Rattle.c_syntax.specs.Trees.{ExpressionTree}
use Rattle.c_syntax.specs.Statements.{one}
use Rattle.c_reader_tokens.specs.Reading.{Reading}
use Rattle.c_reader_tokens.specs.Peeking.{is_sign_next}
use Rattle.c_reader_tokens.specs.Tokens.{sign}
use Rattle.c_reader_tokens.specs.Assigning.{assign_operator, step_operator, is_step_next}
use Rattle.c_reader_expression_laws.specs.Reading.{expression_at}
use Rattle.c_reader_productions.specs.Combining.{◌▷◌, ◌&◌, made, either}

pub data Deed (A : Type 0) : Type 0 where
  Becomes : (x : A) → Deed A
  Changes : (o : AssignOperator) (e : ExpressionTree) → Deed A

-- behind an lvalue: an operator and a value, or `++` or `--`, which is an operator and 1
unfoldable pub changing : ℕ → Reading (AssignOperator × ExpressionTree)
changing fuel ts = either is_step_next (made (λ o. (o, one)) step_operator) (assign_operator & expression_at fuel 0) ts

-- behind an lvalue: `=` and what it becomes, or what changes it
abbrev pub deed : {A : Type 0} → Reading A → Reading (AssignOperator × ExpressionTree) → Reading (Deed A)
deed becomes changes ts =
    either (is_sign_next Assign) (made (λ x. Becomes x) (sign Assign ▷ becomes)) (made (λ c. Changes c.0 c.1) changes) ts
