use Rattle.std.proofs.Common.{◌≡◌, ◌++◌, map, length}
use Rattle.linear_faults.specs.Faults.{site_of}
use Rattle.linear_faults_run.specs.Standing.{frame_of}
use Rattle.linear_faults_search.proofs.finding.take_calls.Given as goal

-- the calls so far, and those that are left
abbrev pub invariant-loop-caller : goal.invariant-loop-caller
invariant-loop-caller l = l.calls.items ++ map (λ c. site_of (frame_of c)) l.callers ≡ map (λ c. site_of (frame_of c)) l.initial.callers

abbrev pub decreases-loop-caller : goal.decreases-loop-caller
decreases-loop-caller l = length l.callers
