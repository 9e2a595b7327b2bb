-- The trees of statements whose parts stand for themselves in the code.
use Rattle.std.specs.Prelude.{ℕ, List, map}
use Rattle.c_program.specs.declared.term.Term.{Term}
use Rattle.c_program.specs.declared.action.Action.{Action}
use Rattle.c_program.specs.declared.action.Called as C
use Rattle.c_program.specs.declared.action.Target.{Target}
use Rattle.c_program.specs.declared.function.Function.{Function}
use Rattle.c_program.specs.declared.function.GlobalVariable.{GlobalVariable}
use Rattle.c_program.specs.Trees.{ActionTree, ProgramTree, Called, Give, If}
use Rattle.c_program.specs.Views.{term_tree, action_tree, function_tree}
use Rattle.c_program.specs.Meaning.{Work, Turns}

-- one of two actions, by a condition
abbrev pub choice_tree : Term → Action → Action → ActionTree
choice_tree condition then other = If (term_tree condition) (action_tree then) (action_tree other)

-- a loop from its head on
abbrev pub loop_work : Term → Action → Action → Work
loop_work condition body behind = Turns (term_tree condition) (action_tree body) (action_tree behind)

-- a call, whose value goes to the target
abbrev pub call_tree : Target → C.Called → ActionTree
call_tree target called = Give target (Called called.function (map term_tree called.arguments))

-- a program
abbrev pub program_of : List GlobalVariable → List Function → ℕ → ProgramTree
program_of globals functions main = record { globals = globals; functions = map function_tree functions; main = main }
