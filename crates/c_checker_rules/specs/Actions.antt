-- What a statement stands for (C99 6.8): its names are resolved, each declaration is reached where it stands, and all
-- loops are one.
use Rattle.std.specs.Prelude.{ℕ, suc, Option, Some, None}
use Rattle.c_syntax.specs.Trees.{ExpressionTree, ValueTree, LvalueTree, ChangeTree, SetTree, LocalTree, StartTree, StatementTree, StatementsTree}
use Rattle.c_syntax.specs.Trees as T
use Rattle.c_program.specs.declared.action.Target.{Target}
use Rattle.c_program.specs.declared.action.Target.TheVariants as G
use Rattle.c_program.specs.Trees.{TermTree, GivenTree, ActionTree, ActionsTree}
use Rattle.c_program.specs.Trees as P
use Rattle.c_checker_rules.specs.declared.meaning.Meaning.{Meaning}
use Rattle.c_checker_rules.specs.declared.meaning.Meaning.TheVariants as M
use Rattle.c_checker_rules.specs.Names.{Scope, meaning_of}
use Rattle.c_syntax.specs.Signs.{binary_of}
use Rattle.c_checker_rules.specs.Types.{variable_type, type_of}
use Rattle.c_checker_rules.specs.Terms.{array_number, variable_term, binary_term, change_operator, term_of}
use Rattle.c_checker_rules.specs.Calls.{Functions, call_given, value_given}
use Rattle.c_checker_rules.specs.Locals.{Here, left, with_local}
use Rattle.c_checker_rules.specs.Statements.{with_start, after}

-- where a value goes that is given to a name
abbrev pub target_of : Option Meaning → Target
target_of None = G.Nowhere
target_of (Some (M.Local n t)) = G.Local n
target_of (Some (M.Variable n t)) = G.Global n
target_of (Some (M.Array n t)) = G.Nowhere
target_of (Some (M.Function n)) = G.Nowhere

abbrev pub two : ActionTree → ActionTree → ActionTree
two s t = P.Sequence (P.First s (P.First t P.Done))

-- a local becomes indeterminate where its declaration is reached, and then its value is evaluated
abbrev pub declared : Functions → Scope → ℕ → Option ValueTree → ActionTree
declared f scope n None = P.Declare n
declared f scope n (Some v) = two (P.Declare n) (P.Give (G.Local n) (value_given f scope v))

-- an lvalue becomes a word
abbrev pub set_lvalue : Scope → LvalueTree → TermTree → ActionTree
set_lvalue scope (T.Name x) e = P.Give (target_of (meaning_of scope x)) (P.Plain e)
set_lvalue scope (T.Cell a i) e = P.Store (array_number (meaning_of scope a)) (term_of scope i) e

-- `t op= e` is `t = t op (e)`, but that t is evaluated once (6.5.16.2)
abbrev pub change_action : Scope → ChangeTree → ActionTree
change_action scope c = change c.lvalue
  where
    change : LvalueTree → ActionTree
    change (T.Name x) =
        set_lvalue scope (T.Name x)
        (binary_term (binary_of c.operator) (variable_type (meaning_of scope x)) (type_of scope c.value)
        (variable_term (meaning_of scope x)) (term_of scope c.value))
    change (T.Cell a i) =
        P.Update (array_number (meaning_of scope a)) (term_of scope i)
        (change_operator c.operator (variable_type (meaning_of scope a)) (type_of scope c.value)) (term_of scope c.value)

abbrev pub set_action : Scope → SetTree → ActionTree
set_action scope (T.Becomes l e) = set_lvalue scope l (term_of scope e)
set_action scope (T.Changes c) = change_action scope c

abbrev pub start_action : ℕ → Here → StartTree → ActionTree
start_action depth h T.StartNothing = P.Nothing
start_action depth h (T.StartSet s) = set_action h.scope s
start_action depth h (T.StartLocal t x e) =
    two (P.Declare h.locals) (P.Give (G.Local h.locals) (P.Plain (term_of (with_local depth h t x).scope e)))

-- a `for` without condition goes on
abbrev pub condition : Scope → Option ExpressionTree → TermTree
condition scope None = P.Constant 1
condition scope (Some e) = term_of scope e

abbrev pub step_action : Scope → Option SetTree → ActionTree
step_action scope None = P.Nothing
step_action scope (Some s) = set_action scope s

abbrev pub return_action : Functions → Scope → Option ValueTree → ActionTree
return_action f scope None = P.Leave
return_action f scope (Some v) = P.Give G.Caller (value_given f scope v)

abbrev mutual
  pub action_of : Functions → ℕ → Here → StatementTree → ActionTree
  action_of f depth h T.Empty = P.Nothing
  action_of f depth h (T.Local l) = declared f (with_local depth h l.kind l.name).scope h.locals l.value
  action_of f depth h (T.Block s) = P.Sequence (actions_of f (suc depth) h s)
  action_of f depth h (T.Call c) = P.Give G.Nowhere (call_given f h.scope c)
  action_of f depth h (T.Assign x v) = P.Give (target_of (meaning_of h.scope x)) (value_given f h.scope v)
  action_of f depth h (T.Store a i e) = P.Store (array_number (meaning_of h.scope a)) (term_of h.scope i) (term_of h.scope e)
  action_of f depth h (T.Change c) = change_action h.scope c
  action_of f depth h (T.If e s) = P.If (term_of h.scope e) (action_of f depth h s) P.Nothing
  action_of f depth h (T.IfElse e s t) =
      P.If (term_of h.scope e) (action_of f depth h s) (action_of f depth (left h (after depth h s)) t)
  action_of f depth h (T.While e s) = P.Loop (term_of h.scope e) (action_of f depth h s) P.Nothing
  action_of f depth h (T.Do s e) =
      P.Loop (P.Constant 1) (action_of f depth h s) (P.If (term_of h.scope e) P.Nothing P.Continue)
  action_of f depth h (T.For start e step s) =
      two (start_action (suc depth) h start)
      (P.Loop (condition (with_start (suc depth) h start).scope e)
      (action_of f (suc depth) (with_start (suc depth) h start) s)
      (step_action (with_start (suc depth) h start).scope step))
  action_of f depth h (T.Break at) = P.Break
  action_of f depth h (T.Continue at) = P.Continue
  action_of f depth h (T.Return at v) = return_action f h.scope v

  pub actions_of : Functions → ℕ → Here → StatementsTree → ActionsTree
  actions_of f depth h T.Done = P.Done
  actions_of f depth h (T.First s rest) = P.First (action_of f depth h s) (actions_of f depth (after depth h s) rest)
