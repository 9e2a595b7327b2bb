-- The tree that a value of the code stands for: the same, without its addresses in memory.
use Rattle.std.specs.Prelude.{List, [], ◌∷◌, map, Option, Some, None}
use Rattle.c_syntax.specs.Trees.{ExpressionTree, CallTree, ValueTree, LvalueTree, ChangeTree, SetTree, LocalTree, StartTree, StatementTree, StatementsTree, InitialTree, InitializerTree, GlobalTree, FunctionTree, DeclarationTree}
use Rattle.c_syntax.specs.Trees as T
use Rattle.c_syntax.specs.declared.expression.Expression.{Expression}
use Rattle.c_syntax.specs.declared.expression.Expression.TheVariants as E
use Rattle.c_syntax.specs.declared.statement.Call as C
use Rattle.c_syntax.specs.declared.statement.Value.{Value}
use Rattle.c_syntax.specs.declared.statement.Value.TheVariants as V
use Rattle.c_syntax.specs.declared.statement.Lvalue.{Lvalue}
use Rattle.c_syntax.specs.declared.statement.Lvalue.TheVariants as lvalue
use Rattle.c_syntax.specs.declared.statement.Change as H
use Rattle.c_syntax.specs.declared.statement.Set.{Set}
use Rattle.c_syntax.specs.declared.statement.Set.TheVariants as set
use Rattle.c_syntax.specs.declared.statement.Local as L
use Rattle.c_syntax.specs.declared.statement.ForStart.{ForStart}
use Rattle.c_syntax.specs.declared.statement.ForStart.TheVariants as F
use Rattle.c_syntax.specs.declared.statement.Statement.{Statement, Row_of-Statement, end_of-Statement, more_of-Statement}
use Rattle.c_syntax.specs.declared.statement.Statement.TheVariants as S
use Rattle.c_syntax.specs.declared.declaration.Initial.{Initial}
use Rattle.c_syntax.specs.declared.declaration.Initializer.{Initializer}
use Rattle.c_syntax.specs.declared.declaration.Initializer.TheVariants as I
use Rattle.c_syntax.specs.declared.declaration.Global as G
use Rattle.c_syntax.specs.declared.declaration.Function as N
use Rattle.c_syntax.specs.declared.declaration.Declaration.{Declaration}
use Rattle.c_syntax.specs.declared.declaration.Declaration.TheVariants as D

-- a part that may be missing
abbrev pub optional_tree : {A B : Type 0} → (A → B) → Option A → Option B
optional_tree view None = None
optional_tree view (Some x) = Some (view x)

abbrev pub expression_tree : Expression → ExpressionTree
expression_tree (E.Constant c) = T.Number c
expression_tree (E.Variable x) = T.Variable x
expression_tree (E.Element' a p e) = T.Element a (expression_tree e)
expression_tree (E.Parenthesis' p e) = T.Parenthesis (expression_tree e)
expression_tree (E.Cast' t p e) = T.Cast t (expression_tree e)
expression_tree (E.Unary' o p e) = T.Unary o (expression_tree e)
expression_tree (E.Binary' o p a q b) = T.Binary o (expression_tree a) (expression_tree b)
expression_tree (E.Conditional' p c q a r b) = T.Conditional (expression_tree c) (expression_tree a) (expression_tree b)

abbrev pub call_tree : C.Call → CallTree
call_tree c = record { callee = c.callee; arguments = map expression_tree c.arguments }

abbrev pub value_tree : Value → ValueTree
value_tree (V.Expression e) = T.Plain (expression_tree e)
value_tree (V.Call c) = T.Called (call_tree c)

abbrev pub lvalue_tree : Lvalue → LvalueTree
lvalue_tree (lvalue.Variable x) = T.Name x
lvalue_tree (lvalue.Element a e) = T.Cell a (expression_tree e)

abbrev pub change_tree : H.Change → ChangeTree
change_tree c = record { lvalue = lvalue_tree c.lvalue; operator = c.operator; value = expression_tree c.value }

abbrev pub set_tree : Set → SetTree
set_tree (set.Becomes l e) = T.Becomes (lvalue_tree l) (expression_tree e)
set_tree (set.Changes c) = T.Changes (change_tree c)

abbrev pub local_tree : L.Local → LocalTree
local_tree l = record { kind = l.kind; name = l.name; value = optional_tree value_tree l.value }

abbrev pub start_tree : ForStart → StartTree
start_tree F.Nothing = T.StartNothing
start_tree (F.Set s) = T.StartSet (set_tree s)
start_tree (F.Local t x e) = T.StartLocal t x (expression_tree e)

abbrev mutual
  pub statement_tree : Statement → StatementTree
  statement_tree S.Empty = T.Empty
  statement_tree (S.Local l) = T.Local (local_tree l)
  statement_tree (S.Block' shape all) = T.Block (row_tree all)
  statement_tree (S.Call c) = T.Call (call_tree c)
  statement_tree (S.Assign x v) = T.Assign x (value_tree v)
  statement_tree (S.Store a i e) = T.Store a (expression_tree i) (expression_tree e)
  statement_tree (S.Change c) = T.Change (change_tree c.value)
  statement_tree (S.If' e p s) = T.If (expression_tree e) (statement_tree s)
  statement_tree (S.IfElse' e p s q t) = T.IfElse (expression_tree e) (statement_tree s) (statement_tree t)
  statement_tree (S.While' e p s) = T.While (expression_tree e) (statement_tree s)
  statement_tree (S.Do' p s e) = T.Do (statement_tree s) (expression_tree e)
  statement_tree (S.For' head p s) = T.For (start_tree head.value.start) (optional_tree expression_tree head.value.condition) (optional_tree set_tree head.value.step) (statement_tree s)
  statement_tree (S.Break at) = T.Break at
  statement_tree (S.Continue at) = T.Continue at
  statement_tree (S.Return at v) = T.Return at (optional_tree value_tree v)

  pub row_tree : {m : _} → Row_of-Statement m → StatementsTree
  row_tree end_of-Statement = T.Done
  row_tree (more_of-Statement s rest) = T.First (statement_tree s) (row_tree rest)

abbrev pub statements_tree : List Statement → StatementsTree
statements_tree [] = T.Done
statements_tree (s ∷ rest) = T.First (statement_tree s) (statements_tree rest)

abbrev pub initial_tree : Initial → InitialTree
initial_tree i = record { value = expression_tree i.value; offset = i.offset }

abbrev pub initializer_tree : Initializer → InitializerTree
initializer_tree (I.Plain i) = T.Single (initial_tree i)
initializer_tree (I.Braced is) = T.Braced (map initial_tree is)

abbrev pub global_tree : G.Global → GlobalTree
global_tree g = record { kind = g.kind; name = g.name; size = g.size; initializer = optional_tree initializer_tree g.initializer }

abbrev pub function_tree : N.Function → FunctionTree
function_tree f = record { result = f.result; name = f.name; parameters = f.parameters; body = statements_tree f.body }

abbrev pub declaration_tree : Declaration → DeclarationTree
declaration_tree (D.Global g) = T.Global (global_tree g)
declaration_tree (D.Function f) = T.Function (function_tree f)
declaration_tree (D.Prototype p) = T.Prototype' p
