use Rattle.std.proofs.Common.{◌≡◌, ℕ, List, []}
use Rattle.c_faults_step.specs.declared.step.Step.TheVariants.{Goes}
use Rattle.c_faults_step.specs.Steps.{goes_wrong, step_cost}
use Rattle.c_faults_search.proofs.finding.run.Given as goal

-- what is printed so far, with which the run goes wrong where the whole does
abbrev pub invariant-loop-step : goal.invariant-loop-step
invariant-loop-step l = (printed : List ℕ) × (goes_wrong l.step l.tracer printed ≡ goes_wrong Goes l.fn.tracer [])

abbrev pub decreases-loop-step : goal.decreases-loop-step
decreases-loop-step l = step_cost l.step l.tracer
