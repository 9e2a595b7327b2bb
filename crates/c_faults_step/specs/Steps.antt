-- What a step leads to. A step leads from one run to another.
use Rattle.std.specs.Prelude.{◌≡◌, ℕ, ◌+◌, List, [], ◌∷◌, ◌++◌, Option, Some, None, map, take}
use Rattle.std.specs.Option.{option_or}
use Rattle.c_program.specs.declared.action.Target.{Target}
use Rattle.c_program.specs.Trees.{FunctionTree, ActionTree}
use Rattle.c_program.specs.Views.{function_tree}
use Rattle.c_program.specs.State.{State}
use Rattle.c_program.specs.Meaning.{Outcome, Falls, arrives, stores, exec, level}
use Rattle.c_meaning_machine.specs.Scopes.{state_of}
use Rattle.c_faults.specs.declared.cause.Cause.TheVariants.{Malformed}
use Rattle.c_faults.specs.declared.gap.Gap.{Gap}
use Rattle.c_faults.specs.declared.fault.Fault.{Fault}
use Rattle.c_faults.specs.Gaps.{cell_gap}
use Rattle.c_faults.specs.Changes.{arrival_gap}
use Rattle.c_faults.specs.Frames.{Frame, told, Task, work_of}
use Rattle.c_faults.specs.Faults.{fault, blames}
use Rattle.c_faults_step.specs.declared.step.Step.{Step}
use Rattle.c_faults_step.specs.declared.step.Step.TheVariants.{Goes, Prints, Wrong, Over}
use Rattle.c_faults_step.specs.declared.tracer.Tracer.{Tracer}
use Rattle.c_faults_step.specs.Piles.{pending}
use Rattle.c_faults_step.specs.Ahead.{frame, ahead}
use Rattle.c_faults_step.specs.Costs.{items_cost}

abbrev pub functions_of : Tracer → List FunctionTree
functions_of t = map function_tree t.functions.now

-- the state of the running function, where so much is printed
abbrev pub here : Tracer → List ℕ → State
here t output = state_of t.scope output

abbrev pub frame_of : Tracer → Frame
frame_of t = frame t.running (pending t.items)

-- what goes wrong behind an outcome of what is done now
abbrev pub rest_of : Tracer → Outcome → Option Fault
rest_of t o = ahead t.places.now (functions_of t) (pending t.items) t.running (take t.scope.base t.scope.locals.items) o

-- where the run goes wrong that stands so, where so much is printed
abbrev pub goes_wrong : Step → Tracer → List ℕ → Option Fault
goes_wrong Goes t output = rest_of t (Falls (here t output))
goes_wrong (Prints byte target at) t output =
    let s = here t (output ++ byte ∷ []) in option_or (told (frame_of t) (arrival_gap at target s)) (rest_of t (arrives target byte s))
goes_wrong (Wrong g) t output = told (frame_of t) (Some g)
goes_wrong Over t output = None

-- whatever is printed so far, the run goes wrong where this does
abbrev pub Meets : Step → Tracer → (List ℕ → Option Fault) → Type 0
Meets step t wanted = (output : List ℕ) → goes_wrong step t output ≡ wanted output

-- The run arrives where this leads, done in the old run's state: it has this gap, and this outcome.
abbrev pub Reaches : Tracer → Tracer → (State → Option Gap) → (State → Outcome) → Step → Type 0
Reaches old new found does step =
    Meets step new (λ output. option_or (told (frame_of old) (found (here old output))) (rest_of old (does (here old output))))

-- The same for a store to a cell.
abbrev pub Stores : Tracer → Tracer → ℕ → ℕ → ℕ → ℕ → Step → Type 0
Stores old new g i w at = Reaches old new (λ s. cell_gap at s.globals g (Some i)) (λ s. stores g s (Some i) (Some w))

-- The same for a word that goes to its target.
abbrev pub Arrives : Tracer → Tracer → Target → ℕ → ℕ → Step → Type 0
Arrives old new target w at = Reaches old new (arrival_gap at target) (arrives target w)

-- The same for what has no gap of its own.
abbrev pub ReachesRest : Tracer → Tracer → (State → Outcome) → Step → Type 0
ReachesRest old new does = Reaches old new (λ s. None) does

-- The same for work below this bound.
abbrev pub ReachesWork : Tracer → Tracer → ℕ → Task → Step → Type 0
ReachesWork old new n task step =
    Meets step new
    (λ output.
    option_or (blames old.places.now (functions_of old) n task (here old output))
    (rest_of old (level (functions_of old) n (work_of task) (here old output))))

-- The same for an action with this bound, whose places these are.
abbrev pub Does : Tracer → Tracer → ℕ → List ℕ → ActionTree → Step → Type 0
Does old new n ps action step =
    let lower = level (functions_of old) n in
    let blame = blames old.places.now (functions_of old) n in
    Meets step new
    (λ output. option_or (fault (frame_of old) lower blame ps action (here old output)) (rest_of old (exec lower action (here old output))))

-- what no text stands for
abbrev pub IsMalformed : ℕ → Step → Type 0
IsMalformed at step = step ≡ Wrong (record { cause = Malformed; place = at })

-- the steps that are still to be done
abbrev pub rest_cost : Tracer → ℕ
rest_cost t = 1 + items_cost (functions_of t) (pending t.items)

abbrev pub step_cost : Step → Tracer → ℕ
step_cost Goes t = rest_cost t
step_cost (Prints byte target at) t = 1 + rest_cost t
step_cost (Wrong g) t = 0
step_cost Over t = 0
