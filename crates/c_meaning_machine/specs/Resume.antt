-- What a stopped run still does: the meaning of what is left to do.
use Rattle.std.specs.Prelude.{ℕ, List, [], ◌∷◌, Option, take, drop, map}
use Rattle.c_program.specs.Trees.{FunctionTree}
use Rattle.c_program.specs.Views.{term_tree, action_tree, actions_tree, function_tree}
use Rattle.c_program.specs.State.{State}
use Rattle.c_program.specs.Meaning.{Outcome, Work, Turns, goes_on, exec_all, turns_again, after_body, comes_back, ends, level}
use Rattle.c_meaning_machine.specs.declared.left.Cycle.{Cycle}
use Rattle.c_meaning_machine.specs.declared.left.Left.{Left}
use Rattle.c_meaning_machine.specs.declared.left.Waiting.{Waiting}
use Rattle.c_meaning_machine.specs.declared.left.Left.TheVariants.{Rest, Body, Behind, Back}
use Rattle.c_meaning_machine.specs.declared.machine.Machine.{Machine}
use Rattle.c_meaning_machine.specs.Scopes.{state_of}
use Rattle.c_meaning_machine.specs.Stacks.{waiting}

-- What is done behind an outcome, the top of the stack first. The callers' locals lie below those of the
-- running function, each caller's behind those of its own.
abbrev pub resume : List FunctionTree → List Left → List (Option ℕ) → Outcome → Outcome
resume functions [] below o = o
resume functions (Rest n actions ∷ left) below o = resume functions left below (goes_on (exec_all (level functions n) (actions_tree actions.now)) o)
resume functions (Body c ∷ left) below o =
    resume functions left below (after_body (level functions c.bound) (term_tree c.condition.now) (action_tree c.body.now) (action_tree c.behind.now) o)
resume functions (Behind c ∷ left) below o =
    resume functions left below (turns_again (level functions c.bound) (term_tree c.condition.now) (action_tree c.body.now) (action_tree c.behind.now) o)
resume functions (Back c ∷ left) below o =
    resume functions left (take c.base below) (goes_on (exec_all (level functions c.bound) (actions_tree c.actions.now)) (comes_back c.target (drop c.base below) (ends c.ending o)))

-- a loop from its head on
abbrev pub work_of : Cycle → Work
work_of c = Turns (term_tree c.condition.now) (action_tree c.body.now) (action_tree c.behind.now)

-- the functions of a machine
abbrev pub functions_of : Machine → List FunctionTree
functions_of m = map function_tree m.functions.now

-- what is done behind an outcome of what is done now
abbrev pub rest_of : Machine → Outcome → Outcome
rest_of m o = resume (functions_of m) (waiting m.left) (take m.scope.base m.scope.locals.items) o

-- the state of the running function, where so much is printed
abbrev pub here : Machine → List ℕ → State
here m output = state_of m.scope output

-- what is done behind the present action
abbrev pub later : Machine → Outcome → Outcome
later m o = rest_of m (goes_on (exec_all (level (functions_of m) m.bound) (actions_tree m.actions.now)) o)

-- what is done behind an outcome of a callee whose caller stands no more on the stack
abbrev pub back_of : Machine → Waiting → Outcome → Outcome
back_of m c o =
    let below = take m.scope.base m.scope.locals.items in
    resume (functions_of m) (waiting m.left) (take c.base below)
    (goes_on (exec_all (level (functions_of m) c.bound) (actions_tree c.actions.now)) (comes_back c.target (drop c.base below) o))
