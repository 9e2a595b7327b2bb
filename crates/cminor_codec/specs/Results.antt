-- What readers of several trees, or of one that may be missing, returned.
use Rattle.std.specs.Prelude.{List, map, Option, Result, Ok, Err}
use Rattle.std.specs.Global.{Vec}
use Rattle.lang_base.specs.declared.errors.FormError.{FormError}
use Rattle.cminor_syntax.specs.Trees.{ExpressionTree, StatementTree}
use Rattle.cminor_syntax.specs.Views.{expression_tree, statement_tree, optional_tree}
use Rattle.cminor_syntax.specs.declared.expression.Expression.{Expression}
use Rattle.cminor_syntax.specs.declared.statement.Statement.{Statement}

abbrev pub expressions_of : Result (Vec Expression) FormError → Result (List ExpressionTree) FormError
expressions_of (Ok v) = Ok (map expression_tree v.items)
expressions_of (Err fault) = Err fault

abbrev pub row_of : Result (List Expression) FormError → Result (List ExpressionTree) FormError
row_of (Ok row) = Ok (map expression_tree row)
row_of (Err fault) = Err fault

abbrev pub maybe_of : Result (Option Expression) FormError → Result (Option ExpressionTree) FormError
maybe_of (Ok o) = Ok (optional_tree expression_tree o)
maybe_of (Err fault) = Err fault

abbrev pub statements_of : Result (Vec Statement) FormError → Result (List StatementTree) FormError
statements_of (Ok v) = Ok (map statement_tree v.items)
statements_of (Err fault) = Err fault
