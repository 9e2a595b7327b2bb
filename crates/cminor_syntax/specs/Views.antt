-- The tree that a value of the code stands for: the same, without its addresses in memory.
use Rattle.std.specs.Prelude.{List, [], ◌∷◌, map, Option, Some, None}
use Rattle.cminor_syntax.specs.Trees.{ExpressionTree, StatementTree, StatementsTree}
use Rattle.cminor_syntax.specs.Trees as T
use Rattle.cminor_syntax.specs.declared.expression.Expression.{Expression}
use Rattle.cminor_syntax.specs.declared.expression.Expression.TheVariants as E
use Rattle.cminor_syntax.specs.declared.statement.Statement.{Statement, Row_of-Statement, end_of-Statement, more_of-Statement}
use Rattle.cminor_syntax.specs.declared.statement.Statement.TheVariants as S

abbrev pub expression_tree : Expression → ExpressionTree
expression_tree (E.Constant w) = T.Number w
expression_tree (E.Variable v) = T.Variable v
expression_tree (E.Load' g p i) = T.Load g (expression_tree i)
expression_tree (E.Unary' o p e) = T.Unary o (expression_tree e)
expression_tree (E.Binary' o p a q b) = T.Binary o (expression_tree a) (expression_tree b)
expression_tree (E.Choice' p c q a r b) = T.Choice (expression_tree c) (expression_tree a) (expression_tree b)

-- a part that may be missing
abbrev pub optional_tree : {A B : Type 0} → (A → B) → Option A → Option B
optional_tree view None = None
optional_tree view (Some x) = Some (view x)

abbrev mutual
  pub statement_tree : Statement → StatementTree
  statement_tree S.Skip = T.Skip
  statement_tree (S.Assign v e) = T.Assign v (expression_tree e)
  statement_tree (S.Store g i e) = T.Store g (expression_tree i) (expression_tree e)
  statement_tree (S.Call f target arguments) = T.Call f target (map expression_tree arguments)
  statement_tree (S.Put target e) = T.Put target (expression_tree e)
  statement_tree (S.Sequence' shape all) = T.Sequence (row_tree all)
  statement_tree (S.If' e p s q t) = T.If (expression_tree e) (statement_tree s) (statement_tree t)
  statement_tree (S.Loop' p s) = T.Loop (statement_tree s)
  statement_tree (S.Block' p s) = T.Block (statement_tree s)
  statement_tree (S.Exit n) = T.Exit n
  statement_tree (S.Return e) = T.Return (optional_tree expression_tree e)

  pub row_tree : {m : _} → Row_of-Statement m → StatementsTree
  row_tree end_of-Statement = T.Done
  row_tree (more_of-Statement s rest) = T.First (statement_tree s) (row_tree rest)

abbrev pub statements_tree : List Statement → StatementsTree
statements_tree [] = T.Done
statements_tree (s ∷ rest) = T.First (statement_tree s) (statements_tree rest)
