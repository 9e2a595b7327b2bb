-- Where expressions end.
use Rattle.std.proofs.Common.{ℕ, suc, List, [], ◌∷◌}
use Rattle.c_syntax.specs.declared.punctuator.Punctuator.TheVariants.{LeftParenthesis, RightParenthesis, LeftBracket, RightBracket, Question, Colon, Comma}
use Rattle.c_syntax.specs.declared.token.TokenKind.TheVariants as V
use Rattle.c_syntax.specs.Trees.{ExpressionTree, CallTree, ValueTree, LvalueTree}
use Rattle.c_syntax.specs.Trees as T
use Rattle.c_syntax.specs.Signs.{unary_sign, binary_sign, binding, operand_level}
use Rattle.c_syntax.specs.Parts.{Commas}
use Rattle.c_syntax.specs.Expressions.{IsExpressionAt, IsExpression}
use Rattle.c_syntax.specs.Statements.{IsCall, IsValue, IsLvalue}
use Rattle.c_faults_tokens.specs.Tokens.{behind_expression, behind_commas, behind_call, behind_value, behind_lvalue}
use Rattle.c_faults_tokens.specs.Spelled.{ExpressionsEnd}
use Rattle.c_faults_tokens.proofs.Ends.{Ends, one-ends, sign-ends, name-ends, nothing-ends, then-ends, guarded-ends, typed-ends, first-plain, sign-plain}

expression-at : (level : ℕ) (e : ExpressionTree) → Ends (IsExpressionAt level e) (behind_expression e)
expression-at level (T.Number c) = one-ends (V.Constant c)
expression-at level (T.Variable x) = name-ends x
expression-at level (T.Element a e) =
    then-ends (name-ends a) (then-ends (sign-ends LeftBracket) (then-ends (expression-at 0 e) (sign-ends RightBracket)))
expression-at level (T.Parenthesis e) = then-ends (sign-ends LeftParenthesis) (then-ends (expression-at 0 e) (sign-ends RightParenthesis))
expression-at level (T.Cast t e) =
    then-ends (sign-ends LeftParenthesis)
    (typed-ends t (then-ends (sign-ends RightParenthesis) (expression-at operand_level e)) (first-plain (sign-plain RightParenthesis)))
expression-at level (T.Unary o e) = then-ends (sign-ends (unary_sign o)) (expression-at operand_level e)
expression-at level (T.Binary o a b) =
    guarded-ends (then-ends (expression-at (binding o) a) (then-ends (sign-ends (binary_sign o)) (expression-at (suc (binding o)) b)))
expression-at level (T.Conditional c a b) =
    guarded-ends
    (then-ends (expression-at 1 c)
    (then-ends (sign-ends Question) (then-ends (expression-at 0 a) (then-ends (sign-ends Colon) (expression-at 0 b)))))

pub expression-ends : (e : ExpressionTree) → Ends (IsExpression e) (behind_expression e)
expression-ends e = expression-at 0 e

pub expressions-end : ExpressionsEnd
expressions-end e ts rest h = let p = expression-ends e in p.at ts rest h

commas-end : (es : List ExpressionTree) → Ends (Commas IsExpression es) (behind_commas es)
commas-end [] = nothing-ends
commas-end (e ∷ []) = expression-ends e
commas-end (e ∷ f ∷ es) = then-ends (expression-ends e) (then-ends (sign-ends Comma) (commas-end (f ∷ es)))

pub call-ends : (c : CallTree) → Ends (IsCall c) (behind_call c)
call-ends c =
    then-ends (name-ends c.callee)
    (then-ends (sign-ends LeftParenthesis) (then-ends (commas-end c.arguments) (sign-ends RightParenthesis)))

pub value-ends : (v : ValueTree) → Ends (IsValue v) (behind_value v)
value-ends (T.Plain e) = expression-ends e
value-ends (T.Called c) = call-ends c

pub lvalue-ends : (l : LvalueTree) → Ends (IsLvalue l) (behind_lvalue l)
lvalue-ends (T.Name x) = name-ends x
lvalue-ends (T.Cell a e) =
    then-ends (name-ends a) (then-ends (sign-ends LeftBracket) (then-ends (expression-ends e) (sign-ends RightBracket)))
