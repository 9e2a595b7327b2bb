use Rattle.std.proofs.Common.{◌≡◌, ℕ, ◌≤◌, List, length}
use Rattle.c_program.specs.Meaning.{Breaks}
use Rattle.c_faults_step.specs.Piles.{pending}
use Rattle.c_faults_step.specs.Steps.{here, rest_of, rest_cost}
use Rattle.c_faults_run.proofs.leaving.breaks.Given as goal

-- what leaves here leaves the whole
abbrev pub invariant-loop-item : goal.invariant-loop-item
invariant-loop-item l = record {
  meaning : (output : List ℕ) → rest_of l.tracer (Breaks (here l.tracer output)) ≡ rest_of l.initial.tracer (Breaks (here l.initial.tracer output));
  cost : rest_cost l.tracer ≤ rest_cost l.initial.tracer;
}

abbrev pub decreases-loop-item : goal.decreases-loop-item
decreases-loop-item l = length (pending l.tracer.items)
