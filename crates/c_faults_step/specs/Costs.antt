-- How many steps a run takes at most: a number that falls at each step, so that each run ends at its bound.
use Rattle.std.specs.Prelude.{ℕ, ◌+◌, List, [], ◌∷◌}
use Rattle.c_program.specs.Trees.{FunctionTree}
use Rattle.c_program.specs.Views.{term_tree, action_tree, actions_tree}
use Rattle.c_program.specs.Meaning.{Turns}
use Rattle.c_meaning_machine.specs.Costs.{cost_all, behind_cost, level_cost}
use Rattle.c_faults_step.specs.declared.item.Item.{Item}
use Rattle.c_faults_step.specs.declared.item.Item.TheVariants.{Do, Body, Last, Back}

-- what is left
abbrev pub items_cost : List FunctionTree → List Item → ℕ
items_cost functions [] = 0
items_cost functions (Do n actions ps ∷ items) = 1 + (cost_all (level_cost functions n) (actions_tree actions.now) + items_cost functions items)
items_cost functions (Body c ∷ items) =
    behind_cost (level_cost functions c.bound) (term_tree c.condition.now) (action_tree c.body.now) (action_tree c.last.now) + items_cost functions items
items_cost functions (Last c ∷ items) =
    level_cost functions c.bound (Turns (term_tree c.condition.now) (action_tree c.body.now) (action_tree c.last.now)) + items_cost functions items
items_cost functions (Back w ∷ items) = 1 + items_cost functions items
