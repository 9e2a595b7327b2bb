use Rattle.std.proofs.Common.{◌≡◌, ℕ, ◌≤◌, List}
use Rattle.c_program.specs.Views.{action_tree}
use Rattle.c_program.specs.Meaning.{Level, exec}
use Rattle.c_meaning_machine.specs.Costs.{Costs, cost}
use Rattle.c_meaning_machine.specs.Scopes.{state_of}
use Rattle.c_meaning_machine.proofs.plain.chosen.Given as goal

-- what is found so far does what the whole does, and costs no more
abbrev pub invariant-loop-found : goal.invariant-loop-found
invariant-loop-found l = record {
  meaning : (lower : Level) (output : List ℕ) → exec lower (action_tree l.action) (state_of l.scope output) ≡ exec lower (action_tree l.found) (state_of l.scope output);
  cost : (lower : Costs) → cost lower (action_tree l.found) ≤ cost lower (action_tree l.action);
}

abbrev pub decreases-loop-found : goal.decreases-loop-found
decreases-loop-found l = cost (λ w. 0) (action_tree l.found)
