use Rattle.std.proofs.Common.{◌≡◌, ℕ, ◌≤◌, List, length, take}
use Rattle.c_program.specs.Views.{actions_tree}
use Rattle.c_program.specs.Meaning.{Level, exec_all}
use Rattle.c_meaning_machine.specs.Costs.{Costs, cost_all}
use Rattle.c_meaning_machine.specs.Scopes.{state_of}
use Rattle.c_meaning_machine.proofs.plain.enter.Given as goal

-- what is left does from here what all did, and costs no more
abbrev pub invariant-loop-left : goal.invariant-loop-left
invariant-loop-left l = record {
  meaning : (lower : Level) (output : List ℕ) → exec_all lower (actions_tree l.body) (state_of l.initial.scope output) ≡ exec_all lower (actions_tree l.left) (state_of l.scope output);
  cost : (lower : Costs) → cost_all lower (actions_tree l.left) ≤ cost_all lower (actions_tree l.body);
  base : l.scope.base ≡ l.initial.scope.base;
  below : take l.initial.scope.base l.scope.locals.items ≡ take l.initial.scope.base l.initial.scope.locals.items;
}

abbrev pub decreases-loop-left : goal.decreases-loop-left
decreases-loop-left l = length l.left
