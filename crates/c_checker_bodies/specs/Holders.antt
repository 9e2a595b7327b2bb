-- Statements that hold others, as the reader made them (C99 6.8.4 and 6.8.5): their trees, and what a `do` stands for.
use Rattle.std.specs.Prelude.{◌≡◌}
use Rattle.c_syntax.specs.declared.expression.Expression.{Expression}
use Rattle.c_syntax.specs.declared.statement.Statement.{Statement}
use Rattle.c_syntax.specs.Trees.{StatementTree}
use Rattle.c_syntax.specs.Trees as T
use Rattle.c_syntax.specs.Views.{expression_tree, statement_tree}
use Rattle.c_program.specs.declared.term.Term.{Term}
use Rattle.c_program.specs.declared.action.Action.{Action}
use Rattle.c_program.specs.Trees.{ActionTree}
use Rattle.c_program.specs.Trees as P
use Rattle.c_program.specs.Views.{term_tree, action_tree}
use Rattle.c_checker_rules.specs.declared.errors.CheckError.{CheckError}
use Rattle.c_checker_rules.specs.declared.context.Context.{Context}
use Rattle.c_checker_rules.specs.Told.{Tells}
use Rattle.c_checker_rules.specs.Calls.{Functions}
use Rattle.c_checker_rules.specs.Locals.{Here}
use Rattle.c_checker_rules.specs.Statements as S
use Rattle.c_checker_rules.specs.Actions as A

abbrev pub if_tree : Statement → Expression → StatementTree
if_tree s e = T.If (expression_tree e) (statement_tree s)

abbrev pub while_tree : Statement → Expression → StatementTree
while_tree s e = T.While (expression_tree e) (statement_tree s)

abbrev pub do_tree : Statement → Expression → StatementTree
do_tree s e = T.Do (statement_tree s) (expression_tree e)

-- each turn of a `do` begins with its body, and a false condition behind it leaves the loop
abbrev pub do_action : Action → Term → ActionTree
do_action body condition = P.Loop (P.Constant 1) (action_tree body) (P.If (term_tree condition) P.Nothing P.Continue)

-- The statement has faults, and the first is told; the action is what it stands for.
abbrev pub TellsOf : Functions → Context → Here → StatementTree → CheckError → Type 0
TellsOf f p h s e = Tells e (S.statement_faults f p h s)

abbrev pub StandsFor : Functions → Context → Here → StatementTree → Action → Type 0
StandsFor f p h s a = action_tree a ≡ A.action_of f p.depth h s
