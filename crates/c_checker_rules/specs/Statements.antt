-- What is not well formed in a statement, in the order of the text (C99 6.8), and what is declared behind it.
use Rattle.std.specs.Prelude.{ℕ, suc, List, [], ◌∷◌, ◌++◌, Option, Some, None, false}
use Rattle.c_syntax.specs.declared.declaration.ReturnType.{ReturnType}
use Rattle.c_syntax.specs.declared.declaration.ReturnType.TheVariants as R
use Rattle.c_syntax.specs.Trees.{ExpressionTree, ValueTree, LvalueTree, ChangeTree, SetTree, LocalTree, StartTree, StatementTree, StatementsTree}
use Rattle.c_syntax.specs.Trees as T
use Rattle.c_checker_rules.specs.declared.errors.CheckError.{CheckError}
use Rattle.c_checker_rules.specs.declared.errors.CheckError.TheVariants.{VoidValue, StrayBreak}
use Rattle.c_checker_rules.specs.Told.{unless}
use Rattle.c_checker_rules.specs.Names.{Scope, meaning_of}
use Rattle.c_checker_rules.specs.Expressions.{variable_faults, array_faults, expression_faults}
use Rattle.c_checker_rules.specs.Calls.{Functions, call_faults, value_faults}
use Rattle.c_checker_rules.specs.declared.context.Context.{Context}
use Rattle.c_checker_rules.specs.Locals.{deeper, looping, Here, left, local_faults, with_local}

abbrev pub with_start : ℕ → Here → StartTree → Here
with_start depth h T.StartNothing = h
with_start depth h (T.StartSet s) = h
with_start depth h (T.StartLocal t x e) = with_local depth h t x

-- The names and locals behind a statement. A block and a `for` have a scope of their own.
abbrev mutual
  pub after : ℕ → Here → StatementTree → Here
  after depth h T.Empty = h
  after depth h (T.Local l) = with_local depth h l.kind l.name
  after depth h (T.Block s) = left h (after_all (suc depth) h s)
  after depth h (T.Call c) = h
  after depth h (T.Assign x v) = h
  after depth h (T.Store a i e) = h
  after depth h (T.Change c) = h
  after depth h (T.If e s) = left h (after depth h s)
  after depth h (T.IfElse e s t) = left h (after depth (left h (after depth h s)) t)
  after depth h (T.While e s) = left h (after depth h s)
  after depth h (T.Do s e) = left h (after depth h s)
  after depth h (T.For start e step s) = left h (after (suc depth) (with_start (suc depth) h start) s)
  after depth h (T.Break at) = h
  after depth h (T.Continue at) = h
  after depth h (T.Return at v) = h

  pub after_all : ℕ → Here → StatementsTree → Here
  after_all depth h T.Done = h
  after_all depth h (T.First s rest) = after_all depth (after depth h s) rest

-- a part that may be missing
abbrev pub optional_faults : {A : Type 0} → (A → List CheckError) → Option A → List CheckError
optional_faults faults None = []
optional_faults faults (Some x) = faults x

abbrev pub lvalue_faults : Scope → LvalueTree → List CheckError
lvalue_faults scope (T.Name x) = variable_faults (meaning_of scope x) x.offset
lvalue_faults scope (T.Cell a e) = array_faults (meaning_of scope a) a.offset ++ expression_faults scope e

abbrev pub change_faults : Scope → ChangeTree → List CheckError
change_faults scope c = lvalue_faults scope c.lvalue ++ expression_faults scope c.value

abbrev pub set_faults : Scope → SetTree → List CheckError
set_faults scope (T.Becomes l e) = lvalue_faults scope l ++ expression_faults scope e
set_faults scope (T.Changes c) = change_faults scope c

-- The scope of a local begins before its value (6.2.1, paragraph 7).
abbrev pub start_faults : ℕ → Here → StartTree → List CheckError
start_faults depth h T.StartNothing = []
start_faults depth h (T.StartSet s) = set_faults h.scope s
start_faults depth h (T.StartLocal t x e) = local_faults depth h x ++ expression_faults (with_local depth h t x).scope e

abbrev pub declaration_faults : Functions → ℕ → Here → LocalTree → List CheckError
declaration_faults f depth h l =
    local_faults depth h l.name ++ optional_faults (value_faults f (with_local depth h l.kind l.name).scope) l.value

-- `return` with a value in a function without, or the other way round
abbrev pub return_faults : Functions → Scope → ReturnType → ℕ → Option ValueTree → List CheckError
return_faults f scope R.Void at None = []
return_faults f scope R.Void at (Some v) = VoidValue at ∷ value_faults f scope v
return_faults f scope (R.Value t) at None = VoidValue at ∷ []
return_faults f scope (R.Value t) at (Some v) = value_faults f scope v

abbrev mutual
  pub statement_faults : Functions → Context → Here → StatementTree → List CheckError
  statement_faults f p h T.Empty = []
  statement_faults f p h (T.Local l) = declaration_faults f p.depth h l
  statement_faults f p h (T.Block s) = statements_faults f (deeper p) h s
  statement_faults f p h (T.Call c) = call_faults f h.scope false c
  statement_faults f p h (T.Assign x v) = variable_faults (meaning_of h.scope x) x.offset ++ value_faults f h.scope v
  statement_faults f p h (T.Store a i e) = array_faults (meaning_of h.scope a) a.offset ++ expression_faults h.scope i ++ expression_faults h.scope e
  statement_faults f p h (T.Change c) = change_faults h.scope c
  statement_faults f p h (T.If e s) = expression_faults h.scope e ++ statement_faults f p h s
  statement_faults f p h (T.IfElse e s t) =
      expression_faults h.scope e ++ statement_faults f p h s ++ statement_faults f p (left h (after p.depth h s)) t
  statement_faults f p h (T.While e s) = expression_faults h.scope e ++ statement_faults f (looping p) h s
  statement_faults f p h (T.Do s e) = statement_faults f (looping p) h s ++ expression_faults h.scope e
  statement_faults f p h (T.For start e step s) =
      start_faults (suc p.depth) h start
      ++ optional_faults (expression_faults (with_start (suc p.depth) h start).scope) e
      ++ optional_faults (set_faults (with_start (suc p.depth) h start).scope) step
      ++ statement_faults f (looping (deeper p)) (with_start (suc p.depth) h start) s
  statement_faults f p h (T.Break at) = unless p.in_loop (StrayBreak at)
  statement_faults f p h (T.Continue at) = unless p.in_loop (StrayBreak at)
  statement_faults f p h (T.Return at v) = return_faults f h.scope p.result at v

  pub statements_faults : Functions → Context → Here → StatementsTree → List CheckError
  statements_faults f p h T.Done = []
  statements_faults f p h (T.First s rest) = statement_faults f p h s ++ statements_faults f p (after p.depth h s) rest
