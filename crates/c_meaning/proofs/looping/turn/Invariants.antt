use Rattle.std.proofs.Common.{◌≡◌, ℕ, ◌+◌, ◌≤◌, List}
use Rattle.c_program.specs.Meaning.{level}
use Rattle.c_meaning_machine.specs.Costs.{level_cost, rest_cost}
use Rattle.c_meaning_machine.specs.Resume.{functions_of, here, rest_of, work_of}
use Rattle.c_meaning.proofs.looping.turn.Given as goal

-- what the loop does from here is what it does from its head
abbrev pub invariant-loop-bound : goal.invariant-loop-bound
invariant-loop-bound l = record {
  meaning : (output : List ℕ) → rest_of l.machine (level (functions_of l.machine) l.bound (work_of l.cycle) (here l.machine output)) ≡ rest_of l.initial.machine (level (functions_of l.initial.machine) l.cycle.bound (work_of l.cycle) (here l.initial.machine output));
  cost : level_cost (functions_of l.machine) l.bound (work_of l.cycle) + rest_cost l.machine ≤ level_cost (functions_of l.initial.machine) l.cycle.bound (work_of l.cycle) + rest_cost l.initial.machine;
}

abbrev pub decreases-loop-bound : goal.decreases-loop-bound
decreases-loop-bound l = l.bound
