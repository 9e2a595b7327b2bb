use Rattle.std.proofs.Common.{◌≡◌, ℕ, List, drop}
use Rattle.machine.specs.Calls.{values_of, with_arguments}
use Rattle.linear_faults_run.specs.Standing.{data_of}
use Rattle.linear_faults_run.proofs.calling.pass.Given as goal

-- the parameters before the place have their values, and the rest is still to be passed
abbrev pub invariant-loop-place : goal.invariant-loop-place
invariant-loop-place l =
    (globals : List (List ℕ)) (output : List ℕ)
    → with_arguments l.parameters (values_of l.arguments (data_of l.caller globals output)) (data_of l.initial.callee globals output)
    ≡ with_arguments (drop l.place l.parameters) (values_of (drop l.place l.arguments) (data_of l.caller globals output)) (data_of l.callee globals output)
