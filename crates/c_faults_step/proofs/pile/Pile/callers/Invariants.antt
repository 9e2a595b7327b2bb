use Rattle.std.proofs.Common.{◌≡◌, ◌++◌, length}
use Rattle.c_faults_step.specs.Piles.{pending}
use Rattle.c_faults_step.specs.Ahead.{callers_of}
use Rattle.c_faults_step.proofs.pile.Pile.callers.Given as goal

-- the calls so far, and those that are left
abbrev pub invariant-loop-item : goal.invariant-loop-item
invariant-loop-item l = l.sites.items ++ callers_of (pending l.self) ≡ callers_of (pending l.initial.self)

abbrev pub decreases-loop-item : goal.decreases-loop-item
decreases-loop-item l = length (pending l.self)
