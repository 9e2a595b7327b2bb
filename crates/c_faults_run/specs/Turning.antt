-- Turns of a loop, and lists of actions.
use Rattle.std.specs.Prelude.{ℕ, ◌+◌, List}
use Rattle.std.specs.Option.{option_or}
use Rattle.c_program.specs.declared.action.Action.{Action}
use Rattle.c_program.specs.Views.{term_tree, action_tree, actions_tree}
use Rattle.c_program.specs.Meaning as M
use Rattle.c_program.specs.Meaning.{level, exec, exec_all, turns_again}
use Rattle.c_meaning_machine.specs.Costs.{cost, cost_all, behind_cost, level_cost}
use Rattle.c_faults.specs.Frames.{Frame, Task, Turns}
use Rattle.c_faults.specs.Faults.{fault_all, last_fault, blames}
use Rattle.c_faults_step.specs.declared.item.Cycle.{Cycle}
use Rattle.c_faults_step.specs.declared.step.Step.{Step}
use Rattle.c_faults_step.specs.declared.tracer.Tracer.{Tracer}
use Rattle.c_faults_step.specs.Steps.{functions_of, here, frame_of, rest_of, rest_cost, Meets, ReachesWork}

abbrev pub task_of : Frame → Cycle → Task
task_of f c = Turns f c.places.now (term_tree c.condition.now) (action_tree c.body.now) (action_tree c.last.now)

-- the loop from its head on
abbrev pub Turned : Tracer → Tracer → Cycle → Step → Type 0
Turned old new c step = ReachesWork old new c.bound (task_of (frame_of old) c) step

abbrev pub head_cost : Tracer → Cycle → ℕ
head_cost t c =
    level_cost (functions_of t) c.bound (M.Turns (term_tree c.condition.now) (action_tree c.body.now) (action_tree c.last.now)) + rest_cost t

-- what stands behind the loop's body, and then the loop
abbrev pub BehindBody : Tracer → Tracer → Cycle → Step → Type 0
BehindBody old new c step =
    let lower = level (functions_of old) c.bound in
    let blame = blames old.places.now (functions_of old) c.bound in
    let condition = term_tree c.condition.now in
    let body = action_tree c.body.now in
    let last = action_tree c.last.now in
    Meets step new
    (λ output.
    option_or (last_fault (frame_of old) lower blame c.places.now condition body last (here old output))
    (rest_of old (turns_again lower condition body last (exec lower last (here old output)))))

abbrev pub behind_body_cost : Tracer → Cycle → ℕ
behind_body_cost t c =
    behind_cost (level_cost (functions_of t) c.bound) (term_tree c.condition.now) (action_tree c.body.now) (action_tree c.last.now) + rest_cost t

-- these actions in order, with this bound, whose places these are
abbrev pub DoesAll : Tracer → Tracer → ℕ → List ℕ → List Action → Step → Type 0
DoesAll old new n ps actions step =
    let lower = level (functions_of old) n in
    let blame = blames old.places.now (functions_of old) n in
    Meets step new
    (λ output.
    option_or (fault_all (frame_of old) lower blame ps (actions_tree actions) (here old output))
    (rest_of old (exec_all lower (actions_tree actions) (here old output))))

abbrev pub all_cost : Tracer → ℕ → List Action → ℕ
all_cost t n actions = cost_all (level_cost (functions_of t) n) (actions_tree actions) + rest_cost t

abbrev pub one_cost : Tracer → ℕ → Action → ℕ
one_cost t n action = cost (level_cost (functions_of t) n) (action_tree action) + rest_cost t
