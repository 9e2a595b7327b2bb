-- How high a tree is: a constant or a name is 1; each parenthesis, cast, operator, `?:`, index, call and
-- statement adds 1 to the highest of its parts.
use Rattle.std.specs.Prelude.{ℕ, suc, ◌≤◌, List, [], ◌∷◌, Option, Some, None, max}
use Rattle.std.specs.List.{AllByRecursion}
use Rattle.c_syntax.specs.Trees.{ExpressionTree, CallTree, ValueTree, LvalueTree, ChangeTree, SetTree, LocalTree, StartTree, StatementTree, StatementsTree, InitialTree, InitializerTree, DeclarationTree}
use Rattle.c_syntax.specs.Trees as T

-- no function and no initializer is higher
abbrev pub highest : ℕ
highest = 200

abbrev pub expression_height : ExpressionTree → ℕ
expression_height (T.Number c) = 1
expression_height (T.Variable x) = 1
expression_height (T.Element a e) = suc (max 1 (expression_height e))
expression_height (T.Parenthesis e) = suc (expression_height e)
expression_height (T.Cast t e) = suc (expression_height e)
expression_height (T.Unary o e) = suc (expression_height e)
expression_height (T.Binary o a b) = suc (max (expression_height a) (expression_height b))
expression_height (T.Conditional c a b) = suc (max (expression_height c) (max (expression_height a) (expression_height b)))

-- the highest of some, at least 1: the name that they stand behind
abbrev pub arguments_height : List ExpressionTree → ℕ
arguments_height [] = 1
arguments_height (e ∷ es) = max (expression_height e) (arguments_height es)

abbrev pub call_height : CallTree → ℕ
call_height c = suc (arguments_height c.arguments)

abbrev pub value_height : ValueTree → ℕ
value_height (T.Plain e) = expression_height e
value_height (T.Called c) = call_height c

abbrev pub lvalue_height : LvalueTree → ℕ
lvalue_height (T.Name x) = 1
lvalue_height (T.Cell a e) = suc (max 1 (expression_height e))

abbrev pub change_height : ChangeTree → ℕ
change_height c = suc (max (lvalue_height c.lvalue) (expression_height c.value))

abbrev pub set_height : SetTree → ℕ
set_height (T.Becomes l e) = suc (max (lvalue_height l) (expression_height e))
set_height (T.Changes c) = change_height c

-- a part that may be missing
abbrev pub optional_height : {A : Type 0} → (A → ℕ) → Option A → ℕ
optional_height height None = 0
optional_height height (Some x) = height x

abbrev pub local_height : LocalTree → ℕ
local_height l = suc (max 1 (optional_height value_height l.value))

abbrev pub start_height : StartTree → ℕ
start_height T.StartNothing = 0
start_height (T.StartSet s) = set_height s
start_height (T.StartLocal t x e) = suc (max 1 (expression_height e))

abbrev mutual
  pub statement_height : StatementTree → ℕ
  statement_height T.Empty = 1
  statement_height (T.Local l) = local_height l
  statement_height (T.Block s) = suc (statements_height s)
  statement_height (T.Call c) = suc (call_height c)
  statement_height (T.Assign x v) = suc (max 1 (value_height v))
  statement_height (T.Store a i e) = suc (max (suc (max 1 (expression_height i))) (expression_height e))
  statement_height (T.Change c) = change_height c
  statement_height (T.If e s) = suc (max (expression_height e) (statement_height s))
  statement_height (T.IfElse e s t) = suc (max (expression_height e) (max (statement_height s) (statement_height t)))
  statement_height (T.While e s) = suc (max (expression_height e) (statement_height s))
  statement_height (T.Do s e) = suc (max (statement_height s) (expression_height e))
  statement_height (T.For start e step s) = suc (max (start_height start) (max (optional_height expression_height e) (max (optional_height set_height step) (statement_height s))))
  statement_height (T.Break at) = 1
  statement_height (T.Continue at) = 1
  statement_height (T.Return at v) = suc (optional_height value_height v)

  pub statements_height : StatementsTree → ℕ
  statements_height T.Done = 0
  statements_height (T.First s rest) = max (statement_height s) (statements_height rest)

abbrev pub IsLowInitial : InitialTree → Type 0
IsLowInitial i = expression_height i.value ≤ highest

abbrev pub IsLowInitializer : InitializerTree → Type 0
IsLowInitializer (T.Single i) = IsLowInitial i
IsLowInitializer (T.Braced is) = AllByRecursion IsLowInitial is

-- a part that may be missing
abbrev pub IfThere : {A : Type 0} → (A → Type 0) → Option A → Type 0
IfThere P None = Unit {0}
IfThere P (Some x) = P x

-- A function's height is that of the block that is its body.
abbrev pub IsLow : DeclarationTree → Type 0
IsLow (T.Global g) = IfThere IsLowInitializer g.initializer
IsLow (T.Function f) = suc (statements_height f.body) ≤ highest
IsLow (T.Prototype' p) = Unit {0}
