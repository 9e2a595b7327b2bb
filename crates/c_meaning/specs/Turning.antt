-- Turns of a loop. A turn answers a next step, or none where it is done and the loop goes on from its head.
use Rattle.std.specs.Prelude.{◌≡◌, ℕ, ◌+◌, ◌-◌, ◌≤◌, List, ◌∷◌, Option, MatchOption, take}
use Rattle.c_program.specs.declared.action.Action.{Action}
use Rattle.c_program.specs.Views.{term_tree, action_tree, actions_tree}
use Rattle.c_program.specs.State.{State}
use Rattle.c_program.specs.Meaning.{Outcome, Level, goes_on, exec, exec_all, level, after_body, turns_again}
use Rattle.c_meaning_machine.specs.declared.left.Cycle.{Cycle}
use Rattle.c_meaning_machine.specs.declared.left.Left.{Left}
use Rattle.c_meaning_machine.specs.declared.machine.Machine.{Machine}
use Rattle.c_meaning_machine.specs.declared.next.Next.{Next}
use Rattle.c_meaning_machine.specs.Costs.{cost, cost_all, level_cost, behind_cost, left_cost, rest_cost}
use Rattle.c_meaning_machine.specs.Resume.{functions_of, here, rest_of, resume, work_of}
use Rattle.c_meaning_machine.specs.Stacks.{waiting}
use Rattle.c_meaning_machine.specs.Steps.{Meets, next_cost}
use Rattle.c_meaning.specs.Reaching.{ReachesRest, RestCostsAtMost}

-- the loop from its head on, with this bound
abbrev pub head_of : Machine → ℕ → Cycle → State → Outcome
head_of m bound c = level (functions_of m) bound (work_of c)

-- the loop from its head on
abbrev pub loop_of : Machine → Cycle → State → Outcome
loop_of m c = head_of m c.bound c

-- the loop's body, and then the loop
abbrev pub body_of_loop : Machine → Cycle → State → Outcome
body_of_loop m c s =
    let lower = level (functions_of m) c.bound in
    after_body lower (term_tree c.condition.now) (action_tree c.body.now) (action_tree c.behind.now) (exec lower (action_tree c.body.now) s)

-- what stands behind the loop's body, and then the loop
abbrev pub behind_of_loop : Machine → Cycle → State → Outcome
behind_of_loop m c s =
    let lower = level (functions_of m) c.bound in
    turns_again lower (term_tree c.condition.now) (action_tree c.body.now) (action_tree c.behind.now) (exec lower (action_tree c.behind.now) s)

-- what each of these costs
abbrev pub head_cost : Machine → ℕ → Cycle → ℕ
head_cost m bound c = level_cost (functions_of m) bound (work_of c)

abbrev pub loop_cost : Machine → Cycle → ℕ
loop_cost m c = head_cost m c.bound c

abbrev pub loop_behind_cost : Machine → Cycle → ℕ
loop_behind_cost m c =
    behind_cost (level_cost (functions_of m) c.bound) (term_tree c.condition.now) (action_tree c.body.now) (action_tree c.behind.now)

abbrev pub loop_body_cost : Machine → Cycle → ℕ
loop_body_cost m c =
    2 + (cost (level_cost (functions_of m) c.bound) (action_tree c.body.now) + loop_behind_cost m c)

-- The answer to this part of a turn: with none, what is left is the loop from its head on, with this bound.
abbrev pub TurnReaches : Machine → Machine → ℕ → Cycle → (State → Outcome) → Option Next → Type 0
TurnReaches old new bound c does answer =
    MatchOption answer
    ((output : List ℕ) → rest_of old (does (here old output)) ≡ rest_of new (head_of new bound c (here new output)))
    (ReachesRest old new does)

-- Its cost: with none, the loop costs no more than before; else no more is left than these steps.
abbrev pub TurnCosts : Machine → Machine → ℕ → Cycle → ℕ → Option Next → Type 0
TurnCosts old new bound c steps answer =
    MatchOption answer (head_cost new bound c + rest_cost new ≤ loop_cost old c + rest_cost old) (RestCostsAtMost old new steps)

-- A whole turn: the next one has a bound less.
abbrev pub TurnsOnce : Machine → Machine → Cycle → Option Next → Type 0
TurnsOnce old new c = TurnReaches old new (c.bound - 1) c (loop_of old c)

abbrev pub TurnCostsAtMost : Machine → Machine → Cycle → Option Next → Type 0
TurnCostsAtMost old new c = TurnCosts old new (c.bound - 1) c (loop_cost old c)

-- The body and what stands behind it.
abbrev pub TurnsBody : Machine → Machine → Cycle → Option Next → Type 0
TurnsBody old new c = TurnReaches old new c.bound c (body_of_loop old c)

abbrev pub BodyCostsAtMost : Machine → Machine → Cycle → Option Next → Type 0
BodyCostsAtMost old new c = TurnCosts old new c.bound c (loop_body_cost old c)

-- What stands behind the body.
abbrev pub TurnsBehind : Machine → Machine → Cycle → Option Next → Type 0
TurnsBehind old new c = TurnReaches old new c.bound c (behind_of_loop old c)

abbrev pub BehindCostsAtMost : Machine → Machine → Cycle → Option Next → Type 0
BehindCostsAtMost old new c = TurnCosts old new c.bound c (loop_behind_cost old c)

-- With this bound an action is done, and the others behind it, and then what is left.
abbrev pub BeginsBefore : Machine → Machine → Left → ℕ → Action → List Action → Next → Type 0
BeginsBefore old new left bound action rest next =
    let lower = level (functions_of old) bound in
    Meets next new
    (λ output.
    resume (functions_of old) (left ∷ waiting old.left) (take old.scope.base old.scope.locals.items)
    (goes_on (exec_all lower (actions_tree rest)) (exec lower (action_tree action) (here old output))))

-- what that costs at most
abbrev pub BeginCostsAtMost : Machine → Machine → Left → ℕ → Action → List Action → Next → Type 0
BeginCostsAtMost old new left bound action rest next =
    let lower = level_cost (functions_of old) bound in
    next_cost next new ≤ 2 + (cost lower (action_tree action) + cost_all lower (actions_tree rest) + left_cost (functions_of old) (left ∷ waiting old.left))

-- These actions in order do what the one does.
abbrev pub DoTheSame : Action → List Action → Type 0
DoTheSame one all = (lower : Level) (s : State) → exec_all lower (actions_tree all) s ≡ exec lower (action_tree one) s
