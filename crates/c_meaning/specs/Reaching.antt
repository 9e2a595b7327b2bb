-- What a run of the machine arrives at, and what it costs at most. A step leads from one machine to another.
use Rattle.std.specs.Prelude.{◌≡◌, ℕ, ◌+◌, ◌<◌, ◌≤◌, List, [], Option, MatchOption}
use Rattle.lang_base.specs.Behaviour.{Shows}
use Rattle.c_program.specs.Trees.{ActionTree}
use Rattle.c_program.specs.State.{State}
use Rattle.c_program.specs.Meaning.{Outcome, Level, Work, Falls, Returns, exec, level, shown}
use Rattle.c_meaning_machine.specs.declared.left.Waiting.{Waiting}
use Rattle.c_meaning_machine.specs.declared.machine.Machine.{Machine}
use Rattle.c_meaning_machine.specs.declared.next.Next.{Next}
use Rattle.c_meaning_machine.specs.Costs.{Costs, cost, level_cost, rest_cost, later_cost}
use Rattle.c_meaning_machine.specs.Resume.{functions_of, here, later, rest_of, back_of}
use Rattle.c_meaning_machine.specs.Steps.{Meets, next_cost}

-- what runs below the machine's bound
abbrev pub level_of : Machine → Level
level_of m = level (functions_of m) m.bound

-- what that costs
abbrev pub costs_of : Machine → Costs
costs_of m = level_cost (functions_of m) m.bound

-- what the machine's run still shows
abbrev pub still_shown : Machine → Shows
still_shown m = shown (later m (Falls (here m [])))

-- The run arrives where this leads, done in the old machine's state, and then what stands behind the present action.
abbrev pub Reaches : Machine → Machine → (State → Outcome) → Next → Type 0
Reaches old new does next = Meets next new (λ output. later old (does (here old output)))

-- The same for work below the machine's bound.
abbrev pub ReachesWork : Machine → Machine → Work → Next → Type 0
ReachesWork old new work = Reaches old new (level_of old work)

-- The same, where nothing of the present actions is left to do: what waits on the stack comes next.
abbrev pub ReachesRest : Machine → Machine → (State → Outcome) → Next → Type 0
ReachesRest old new does next = Meets next new (λ output. rest_of old (does (here old output)))

-- The same for a callee's outcome, where its caller no longer stands on the stack.
abbrev pub ReachesCaller : Machine → Machine → Waiting → (State → Outcome) → Next → Type 0
ReachesCaller old new caller does next = Meets next new (λ output. back_of old caller (does (here old output)))

-- The action is done.
abbrev pub Does : Machine → Machine → ActionTree → Next → Type 0
Does old new action = Reaches old new (exec (level_of old) action)

-- Fewer steps are left than before the action.
abbrev pub CostFalls : Machine → Machine → ActionTree → Next → Type 0
CostFalls old new action next = next_cost next new < cost (costs_of old) action + later_cost old

-- No more steps are left than what the work costs, and what stands behind it.
abbrev pub CostsAtMost : Machine → Machine → Work → Next → Type 0
CostsAtMost old new work next = next_cost next new ≤ costs_of old work + later_cost old

-- No more steps are left than these, and those of what waits on the stack.
abbrev pub RestCostsAtMost : Machine → Machine → ℕ → Next → Type 0
RestCostsAtMost old new steps next = next_cost next new ≤ steps + rest_cost old

-- A callee has returned to this caller: a next step, or none where the caller returns the same word.
abbrev pub ComesBack : Machine → Machine → Waiting → Option ℕ → Option Next → Type 0
ComesBack old new caller word answer =
    MatchOption answer
    ((output : List ℕ) → back_of old caller (Returns word (here old output)) ≡ rest_of new (Returns word (here new output)))
    (ReachesCaller old new caller (Returns word))
