-- Which tokens spell an expression, at a level of the grammar (C99 6.5):
--   expr  = or [ "?" expr ":" expr ]                        level 0
--   or    = and { "||" and }, and so on to mul              levels 1 to 10
--   unary = ("-"|"+"|"~"|"!") unary | "(" type ")" unary | primary      level 11
--   primary = const | name | name "[" expr "]" | "(" expr ")"
-- Repeated binary operators group to the left: the left operand is of the operator's own level, the right one of the next.
use Rattle.std.specs.Prelude.{◌≡◌, ℕ, suc, ◌≤◌, List}
use Rattle.c_syntax.specs.declared.punctuator.Punctuator.TheVariants.{LeftParenthesis, RightParenthesis, LeftBracket, RightBracket, Question, Colon}
use Rattle.c_syntax.specs.declared.token.Token.{Token}
use Rattle.c_syntax.specs.Trees.{ExpressionTree}
use Rattle.c_syntax.specs.Trees as T
use Rattle.c_syntax.specs.Signs.{unary_sign, binary_sign, binding, operand_level}
use Rattle.c_syntax.specs.Parts.{Sign, IsConstant, IsName, IsType, ◌⨾◌}

abbrev pub IsExpressionAt : ℕ → ExpressionTree → List Token → Type 0
IsExpressionAt level (T.Number c) ts = IsConstant c ts
IsExpressionAt level (T.Variable x) ts = IsName x ts
IsExpressionAt level (T.Element a e) ts = (IsName a ⨾ Sign LeftBracket ⨾ IsExpressionAt 0 e ⨾ Sign RightBracket) ts
IsExpressionAt level (T.Parenthesis e) ts = (Sign LeftParenthesis ⨾ IsExpressionAt 0 e ⨾ Sign RightParenthesis) ts
IsExpressionAt level (T.Cast t e) ts = (Sign LeftParenthesis ⨾ IsType t ⨾ Sign RightParenthesis ⨾ IsExpressionAt operand_level e) ts
IsExpressionAt level (T.Unary o e) ts = (Sign (unary_sign o) ⨾ IsExpressionAt operand_level e) ts
IsExpressionAt level (T.Binary o a b) ts =
    (level ≤ binding o) × (IsExpressionAt (binding o) a ⨾ Sign (binary_sign o) ⨾ IsExpressionAt (suc (binding o)) b) ts
IsExpressionAt level (T.Conditional c a b) ts =
    (level ≡ 0) × (IsExpressionAt 1 c ⨾ Sign Question ⨾ IsExpressionAt 0 a ⨾ Sign Colon ⨾ IsExpressionAt 0 b) ts

abbrev pub IsExpression : ExpressionTree → List Token → Type 0
IsExpression = IsExpressionAt 0
