-- A tree takes exactly the tokens that spell it by the grammar, whatever stands behind them.
use Rattle.std.specs.Prelude.{◌≡◌, List, ◌++◌}
use Rattle.c_syntax.specs.declared.token.Token.{Token}
use Rattle.c_syntax.specs.Trees.{ExpressionTree, StatementsTree}
use Rattle.c_syntax.specs.Expressions.{IsExpression}
use Rattle.c_syntax.specs.Statements.{AreStatements}
use Rattle.c_faults_tokens.specs.Tokens.{behind_expression, behind_statements}

abbrev pub ExpressionsEnd : Type 0
ExpressionsEnd = (e : ExpressionTree) (ts rest : List Token) → IsExpression e ts → behind_expression e (ts ++ rest) ≡ rest

abbrev pub StatementsEnd : Type 0
StatementsEnd = (s : StatementsTree) (ts rest : List Token) → AreStatements s ts → behind_statements s (ts ++ rest) ≡ rest
