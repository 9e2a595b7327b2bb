-- Calls: the function that begins behind its caller.
use Rattle.std.specs.Prelude.{◌≡◌, ℕ, ◌+◌, ◌-◌, ◌≤◌, List, [], ◌++◌, length, None, map, take, drop, replicate, slice_get}
use Rattle.c_program.specs.declared.function.Function.{Function}
use Rattle.c_program.specs.declared.function.GlobalVariable.{GlobalVariable}
use Rattle.c_program.specs.declared.action.Action.{Action}
use Rattle.c_program.specs.declared.action.Target.{Target}
use Rattle.c_program.specs.Trees.{FunctionTree}
use Rattle.c_program.specs.Views.{actions_tree, function_tree}
use Rattle.c_program.specs.State.{State}
use Rattle.c_program.specs.Meaning.{Outcome, Level, Fails, goes_on, exec_all, comes_back, ends, begins, enters, level, shown, start}
use Rattle.c_meaning_machine.specs.declared.left.Waiting.{Waiting}
use Rattle.c_meaning_machine.specs.declared.machine.Machine.{Machine}
use Rattle.c_meaning_machine.specs.declared.next.Next.{Next}
use Rattle.c_meaning_machine.specs.Resume.{functions_of, here, later, resume}
use Rattle.c_meaning_machine.specs.Stacks.{waiting}
use Rattle.c_meaning_machine.specs.Costs.{Costs, back_cost, body_cost, cost_all, later_cost, level_cost}
use Rattle.c_meaning_machine.specs.Steps.{Meets, next_cost}
use Rattle.c_meaning.specs.Reaching.{ReachesCaller, still_shown}

-- what a function does on these arguments
abbrev pub body_of : Level → FunctionTree → List ℕ → State → Outcome
body_of lower f arguments s = ends f.ending (exec_all lower f.body (begins f arguments s))

-- A function that begins in a machine where its arguments stand on the stack of locals: from `end` on, behind
-- those of its callers.
abbrev pub called_of : Machine → Target → ℕ → FunctionTree → List ℕ → Outcome
called_of m target end f output =
    let functions = functions_of m in
    let below = take end m.scope.locals.items in
    let s : State = record { locals = drop end m.scope.locals.items ++ replicate (f.locals - f.parameters) None; globals = m.scope.globals.items; output = output } in
    resume functions (waiting m.left) (take m.scope.base below)
    (goes_on (exec_all (level functions m.bound) (actions_tree m.actions.now))
    (comes_back target (drop m.scope.base below) (ends f.ending (exec_all (level functions (m.bound - 1)) f.body s))))

-- With so many arguments, what enters the function of this number fails.
abbrev pub EntersNone : List Function → ℕ → ℕ → Type 0
EntersNone functions number arguments =
    (lower : Level) (ws : List ℕ) (s : State) → length ws ≡ arguments →
    enters lower (slice_get (map function_tree functions) number) ws s ≡ Fails s.output

-- With so many arguments, what enters the function of this number is this function's body.
abbrev pub Enters : List Function → ℕ → ℕ → Function → Type 0
Enters functions number arguments f =
    (lower : Level) (ws : List ℕ) (s : State) → length ws ≡ arguments →
    enters lower (slice_get (map function_tree functions) number) ws s ≡ body_of lower (function_tree f) ws s

-- The function of this number costs what this function's body does.
abbrev pub CostsItsBody : List Function → ℕ → Function → Type 0
CostsItsBody functions number f =
    (lower : Costs) → body_cost lower (slice_get (map function_tree functions) number) ≡ cost_all lower (actions_tree f.body)

-- The run arrives where the function leads that is called in the old machine.
abbrev pub Begins : Machine → Machine → Target → ℕ → Function → Next → Type 0
Begins old new target end f next = Meets next new (called_of old target end (function_tree f))

-- what a called function costs, and its return
abbrev pub called_cost : Machine → Function → ℕ
called_cost m f = 2 + cost_all (level_cost (functions_of m) (m.bound - 1)) (actions_tree f.body)

-- No more steps are left than those, and what stands behind the call.
abbrev pub BeginningCosts : Machine → Machine → Function → Next → Type 0
BeginningCosts old new f next = next_cost next new ≤ called_cost old f + later_cost old

-- a body, and its end, where the caller has this bound
abbrev pub body_behind : Machine → Waiting → List Action → State → Outcome
body_behind m caller body s = ends caller.ending (exec_all (level (functions_of m) (caller.bound - 1)) (actions_tree body) s)

-- The run arrives where this body leads, and then its caller, which does not stand on the stack.
abbrev pub BeginsBody : Machine → Machine → Waiting → List Action → Next → Type 0
BeginsBody old new caller body next = ReachesCaller old new caller (body_behind old caller body) next

-- No more steps are left than those of the body and of its caller.
abbrev pub BodyCosts : Machine → Machine → Waiting → List Action → Next → Type 0
BodyCosts old new caller body next =
    next_cost next new ≤ 1 + (cost_all (level_cost (functions_of old) (caller.bound - 1)) (actions_tree body) + back_cost old caller)

-- The machine's run shows what main does.
abbrev pub StartsMain : List GlobalVariable → List Function → Function → ℕ → Machine → Type 0
StartsMain globals functions main bound m =
    still_shown m ≡ shown (body_of (level (map function_tree functions) bound) (function_tree main) [] (start globals))
