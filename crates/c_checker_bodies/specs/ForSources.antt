-- A `for` as the reader made it (C99 6.8.5.3): its faults, and what it stands for.
use Rattle.std.specs.Prelude.{◌≡◌, ℕ, [], List, Option}
use Rattle.c_syntax.specs.declared.expression.Expression.{Expression}
use Rattle.c_syntax.specs.declared.statement.Set.{Set}
use Rattle.c_syntax.specs.declared.statement.ForStart.{ForStart}
use Rattle.c_syntax.specs.declared.statement.Statement.{Statement}
use Rattle.c_syntax.specs.Views.{optional_tree, expression_tree, set_tree, start_tree, statement_tree}
use Rattle.c_program.specs.declared.term.Term.{Term}
use Rattle.c_program.specs.declared.action.Action.{Action}
use Rattle.c_program.specs.Trees.{TermTree, ActionTree, Loop}
use Rattle.c_program.specs.Views.{term_tree, action_tree}
use Rattle.c_checker_rules.specs.declared.errors.CheckError.{CheckError}
use Rattle.c_checker_rules.specs.declared.context.Context.{Context}
use Rattle.c_checker_rules.specs.Told.{Tells}
use Rattle.c_checker_rules.specs.Names.{Scope}
use Rattle.c_checker_rules.specs.Calls.{Functions}
use Rattle.c_checker_rules.specs.Locals.{Here}
use Rattle.c_checker_rules.specs.Statements.{with_start, after}
use Rattle.c_checker_rules.specs.Actions.{two}
use Rattle.c_checker_bodies.specs.Loops.{turns_faults, heads_faults, for_faults, for_action}
use Rattle.c_checker_bodies.specs.Sources.{condition_term, step_tree}

-- what is known behind its start
abbrev pub started : ℕ → Here → ForStart → Here
started depth h start = with_start depth h (start_tree start)

-- the faults of its condition and of its step
abbrev pub turn_faults : Scope → Option Expression → Option Set → List CheckError
turn_faults scope condition step = turns_faults scope (optional_tree expression_tree condition) (optional_tree set_tree step)

-- the faults before its body
abbrev pub head_faults : ℕ → Here → ForStart → Option Expression → Option Set → List CheckError
head_faults depth h start condition step =
    heads_faults depth h (start_tree start) (optional_tree expression_tree condition) (optional_tree set_tree step)

-- its condition and its step, where they stand
abbrev pub head_condition : ℕ → Here → ForStart → Option Expression → TermTree
head_condition depth h start condition = condition_term (started depth h start).scope condition

abbrev pub head_step : ℕ → Here → ForStart → Option Set → ActionTree
head_step depth h start step = step_tree (started depth h start).scope step

-- its start, and then its loop
abbrev pub for_tree : Action → Term → Action → Action → ActionTree
for_tree first condition body step = two (action_tree first) (Loop (term_tree condition) (action_tree body) (action_tree step))

-- The whole has no faults; it has some, and the first is told; the action is what it stands for.
abbrev pub NoneInFor : Functions → Context → Here → ForStart → Option Expression → Option Set → Statement → Type 0
NoneInFor f p h start condition step s =
    for_faults f p h (start_tree start) (optional_tree expression_tree condition) (optional_tree set_tree step) (statement_tree s) ≡ []

abbrev pub TellsOfFor : Functions → Context → Here → ForStart → Option Expression → Option Set → Statement → CheckError → Type 0
TellsOfFor f p h start condition step s e =
    Tells e (for_faults f p h (start_tree start) (optional_tree expression_tree condition) (optional_tree set_tree step) (statement_tree s))

abbrev pub IsFor : Functions → Context → Here → ForStart → Option Expression → Option Set → Statement → Action → Type 0
IsFor f p h start condition step s a =
    action_tree a ≡ for_action f p.depth h (start_tree start) (optional_tree expression_tree condition) (optional_tree set_tree step) (statement_tree s)

-- what is known behind its body
abbrev pub behind_for : Context → Here → ForStart → Statement → Here
behind_for p h start s = after p.depth (started p.depth h start) (statement_tree s)
