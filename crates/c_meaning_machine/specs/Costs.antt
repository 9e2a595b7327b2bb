-- How many steps a run takes at most: a number that falls at each step, so that each run ends at its bound.
use Rattle.std.specs.Prelude.{ℕ, zero, suc, ◌+◌, List, [], ◌∷◌, Option, Some, None, slice_get}
use Rattle.c_program.specs.Trees.{TermTree, GivenTree, ActionTree, ActionsTree, FunctionTree, Plain, Called, Put, Nothing, Declare, Sequence, Give, Store, Update, If, Loop, Break, Continue, Leave, Done, First}
use Rattle.c_program.specs.Views.{term_tree, action_tree, actions_tree}
use Rattle.c_program.specs.Meaning.{Work, Turns, Calls}
use Rattle.c_meaning_machine.specs.declared.left.Left.{Left}
use Rattle.c_meaning_machine.specs.declared.left.Left.TheVariants.{Rest, Body, Behind, Back}
use Rattle.c_meaning_machine.specs.declared.left.Waiting.{Waiting}
use Rattle.c_meaning_machine.specs.declared.machine.Machine.{Machine}
use Rattle.c_meaning_machine.specs.Stacks.{waiting}
use Rattle.c_meaning_machine.specs.Resume.{functions_of, work_of}

-- the cost of what runs with one bound less
abbrev pub Costs : Type 0
Costs = Work → ℕ

abbrev pub given_cost : Costs → GivenTree → ℕ
given_cost lower (Plain e) = 1
given_cost lower (Called f arguments) = 2 + lower (Calls f [])
given_cost lower (Put e) = 2

abbrev mutual
  pub cost : Costs → ActionTree → ℕ
  cost lower Nothing = 1
  cost lower (Declare n) = 1
  cost lower (Sequence ss) = 2 + cost_all lower ss
  cost lower (Give target v) = given_cost lower v
  cost lower (Store g i e) = 1
  cost lower (Update g i o e) = 1
  cost lower (If c t u) = 2 + (cost lower t + cost lower u)
  cost lower (Loop c body behind) = 2 + lower (Turns c body behind)
  cost lower Break = 1
  cost lower Continue = 1
  cost lower Leave = 1

  pub cost_all : Costs → ActionsTree → ℕ
  cost_all lower Done = 0
  cost_all lower (First t rest) = cost lower t + cost_all lower rest

-- what is done behind a body, and the next turn
abbrev pub behind_cost : Costs → TermTree → ActionTree → ActionTree → ℕ
behind_cost lower c body behind = 2 + (cost lower behind + lower (Turns c body behind))

abbrev pub body_cost : Costs → Option FunctionTree → ℕ
body_cost lower None = 0
body_cost lower (Some f) = cost_all lower f.body

-- the costs below a bound
abbrev pub level_cost : List FunctionTree → ℕ → Costs
level_cost functions zero work = 1
level_cost functions (suc n) (Turns c body behind) =
    2 + (cost (level_cost functions n) body + behind_cost (level_cost functions n) c body behind)
level_cost functions (suc n) (Calls f arguments) = 2 + body_cost (level_cost functions n) (slice_get functions f)

-- what is left
abbrev pub left_cost : List FunctionTree → List Left → ℕ
left_cost functions [] = 0
left_cost functions (Rest n actions ∷ left) = 1 + (cost_all (level_cost functions n) (actions_tree actions.now) + left_cost functions left)
left_cost functions (Body c ∷ left) =
    behind_cost (level_cost functions c.bound) (term_tree c.condition.now) (action_tree c.body.now) (action_tree c.behind.now) + left_cost functions left
left_cost functions (Behind c ∷ left) =
    level_cost functions c.bound (work_of c) + left_cost functions left
left_cost functions (Back c ∷ left) = 1 + (cost_all (level_cost functions c.bound) (actions_tree c.actions.now) + left_cost functions left)

-- what waits on the machine's stack
abbrev pub rest_cost : Machine → ℕ
rest_cost m = left_cost (functions_of m) (waiting m.left)

-- what is done behind the present action, and what waits
abbrev pub later_cost : Machine → ℕ
later_cost m = 1 + (cost_all (level_cost (functions_of m) m.bound) (actions_tree m.actions.now) + rest_cost m)

-- what a caller that no more stands on the stack does, and what waits
abbrev pub back_cost : Machine → Waiting → ℕ
back_cost m c = 1 + (cost_all (level_cost (functions_of m) c.bound) (actions_tree c.actions.now) + rest_cost m)
