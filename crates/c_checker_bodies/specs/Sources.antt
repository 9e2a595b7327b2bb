-- The rules of statements, asked of what the reader made: the faults of a part, and what it stands for.
use Rattle.std.specs.Prelude.{◌≡◌, ℕ, List, ◌++◌, Option}
use Rattle.c_syntax.specs.declared.identifier.Identifier.{Identifier}
use Rattle.c_syntax.specs.declared.expression.Expression.{Expression}
use Rattle.c_syntax.specs.declared.constant.IntegerType.{IntegerType}
use Rattle.c_syntax.specs.declared.declaration.ReturnType.{ReturnType}
use Rattle.c_syntax.specs.Trees.{StartTree, StartLocal}
use Rattle.c_syntax.specs.declared.statement.Call.{Call}
use Rattle.c_syntax.specs.declared.statement.Value.{Value}
use Rattle.c_syntax.specs.declared.statement.Set.{Set}
use Rattle.c_syntax.specs.declared.statement.Local as L
use Rattle.c_syntax.specs.declared.statement.Statement.{Statement}
use Rattle.c_syntax.specs.Views.{optional_tree, expression_tree, call_tree, value_tree, set_tree, statement_tree, statements_tree}
use Rattle.c_program.specs.declared.action.Target.TheVariants.{Nowhere, Local}
use Rattle.c_program.specs.Trees.{TermTree, ActionTree, ActionsTree, Declare, Give, Store}
use Rattle.c_program.specs.declared.action.Value as C
use Rattle.c_program.specs.declared.action.Action.{Action}
use Rattle.c_program.specs.Views.{given_tree, action_tree}
use Rattle.c_checker_rules.specs.declared.errors.CheckError.{CheckError}
use Rattle.c_checker_rules.specs.declared.context.Context.{Context}
use Rattle.c_checker_rules.specs.Names.{Scope, meaning_of}
use Rattle.c_checker_rules.specs.Terms.{array_number, term_of}
use Rattle.c_checker_rules.specs.Expressions.{variable_faults, array_faults, expression_faults}
use Rattle.c_checker_rules.specs.Calls.{Functions, call_given, value_faults, value_given}
use Rattle.c_checker_rules.specs.Locals.{Here, with_local, deeper}
use Rattle.c_checker_rules.specs.Statements as S
use Rattle.c_checker_rules.specs.Actions as A

-- a call whose value is dropped
abbrev pub call_action : Functions → Scope → Call → ActionTree
call_action f scope call = Give Nowhere (call_given f scope (call_tree call))

-- a name becomes a value
abbrev pub assignment_faults : Functions → Scope → Identifier → Value → List CheckError
assignment_faults f scope name value = variable_faults (meaning_of scope name) name.offset ++ value_faults f scope (value_tree value)

abbrev pub assignment_action : Functions → Scope → Identifier → Value → ActionTree
assignment_action f scope name value = Give (A.target_of (meaning_of scope name)) (value_given f scope (value_tree value))

-- a cell becomes a value
abbrev pub store_faults : Scope → Identifier → Expression → Expression → List CheckError
store_faults scope name index value =
    array_faults (meaning_of scope name) name.offset
    ++ expression_faults scope (expression_tree index)
    ++ expression_faults scope (expression_tree value)

abbrev pub store_action : Scope → Identifier → Expression → Expression → ActionTree
store_action scope name index value =
    Store (array_number (meaning_of scope name)) (term_of scope (expression_tree index)) (term_of scope (expression_tree value))

-- a local is declared, with its value if it has one
abbrev pub local_action : Functions → ℕ → Here → L.Local → ActionTree
local_action f depth h local =
    A.declared f (with_local depth h local.kind local.name).scope h.locals (optional_tree value_tree local.value)

-- a local is declared, and then a value goes to it
abbrev pub given_local : ℕ → C.Value → ActionTree
given_local n value = A.two (Declare n) (Give (Local n) (given_tree value))

-- a `for` begins with the declaration of a local
abbrev pub local_start : IntegerType → Identifier → Expression → StartTree
local_start kind name value = StartLocal kind name (expression_tree value)

-- the action is what this start stands for
abbrev pub IsStart : ℕ → Here → StartTree → Action → Type 0
IsStart depth h start a = action_tree a ≡ A.start_action depth h start

-- the condition of a `for`, and what it does behind each turn
abbrev pub condition_faults : Scope → Option Expression → List CheckError
condition_faults scope condition = S.optional_faults (expression_faults scope) (optional_tree expression_tree condition)

abbrev pub condition_term : Scope → Option Expression → TermTree
condition_term scope condition = A.condition scope (optional_tree expression_tree condition)

abbrev pub step_faults : Scope → Option Set → List CheckError
step_faults scope step = S.optional_faults (S.set_faults scope) (optional_tree set_tree step)

abbrev pub step_tree : Scope → Option Set → ActionTree
step_tree scope step = A.step_action scope (optional_tree set_tree step)

-- `return`, with a value or without
abbrev pub return_faults : Functions → Scope → ReturnType → ℕ → Option Value → List CheckError
return_faults f scope gives at value = S.return_faults f scope gives at (optional_tree value_tree value)

abbrev pub return_action : Functions → Scope → Option Value → ActionTree
return_action f scope value = A.return_action f scope (optional_tree value_tree value)

-- a statement
abbrev pub faults_in : Functions → Context → Here → Statement → List CheckError
faults_in f p h s = S.statement_faults f p h (statement_tree s)

abbrev pub action_for : Functions → Context → Here → Statement → ActionTree
action_for f p h s = A.action_of f p.depth h (statement_tree s)

-- statements one behind the other
abbrev pub faults_in_all : Functions → Context → Here → List Statement → List CheckError
faults_in_all f p h all = S.statements_faults f p h (statements_tree all)

abbrev pub actions_for : Functions → Context → Here → List Statement → ActionsTree
actions_for f p h all = A.actions_of f p.depth h (statements_tree all)

-- what the statements of a block in this context stand for
abbrev pub block_actions : Functions → Context → Here → List Statement → ActionsTree
block_actions f p h all = actions_for f (deeper p) h all

-- what is declared behind them
abbrev pub behind_all : Context → Here → List Statement → Here
behind_all p h all = S.after_all p.depth h (statements_tree all)
