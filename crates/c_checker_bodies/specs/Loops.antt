-- A `for` in the context of its own scope (C99 6.8.5.3): what is not well formed in it, and what it stands for.
use Rattle.std.specs.Prelude.{ℕ, List, ◌++◌, Option}
use Rattle.c_syntax.specs.Trees.{ExpressionTree, SetTree, StartTree, StatementTree}
use Rattle.c_program.specs.Trees.{ActionTree}
use Rattle.c_program.specs.Trees as P
use Rattle.c_checker_rules.specs.declared.errors.CheckError.{CheckError}
use Rattle.c_checker_rules.specs.declared.context.Context.{Context}
use Rattle.c_checker_rules.specs.Names.{Scope}
use Rattle.c_checker_rules.specs.Expressions.{expression_faults}
use Rattle.c_checker_rules.specs.Calls.{Functions}
use Rattle.c_checker_rules.specs.Locals.{looping, Here}
use Rattle.c_checker_rules.specs.Statements.{with_start, optional_faults, set_faults, start_faults, statement_faults}
use Rattle.c_checker_rules.specs.Actions.{two, start_action, condition, step_action, action_of}

-- in its condition and in what is done behind each turn
abbrev pub turns_faults : Scope → Option ExpressionTree → Option SetTree → List CheckError
turns_faults scope e step = optional_faults (expression_faults scope) e ++ optional_faults (set_faults scope) step

-- before its body
abbrev pub heads_faults : ℕ → Here → StartTree → Option ExpressionTree → Option SetTree → List CheckError
heads_faults depth h start e step =
    start_faults depth h start ++ turns_faults (with_start depth h start).scope e step

abbrev pub for_faults : Functions → Context → Here → StartTree → Option ExpressionTree → Option SetTree → StatementTree → List CheckError
for_faults f p h start e step s =
    start_faults p.depth h start
    ++ optional_faults (expression_faults (with_start p.depth h start).scope) e
    ++ optional_faults (set_faults (with_start p.depth h start).scope) step
    ++ statement_faults f (looping p) (with_start p.depth h start) s

abbrev pub for_action : Functions → ℕ → Here → StartTree → Option ExpressionTree → Option SetTree → StatementTree → ActionTree
for_action f depth h start e step s =
    two (start_action depth h start)
    (P.Loop (condition (with_start depth h start).scope e)
    (action_of f depth (with_start depth h start) s)
    (step_action (with_start depth h start).scope step))
