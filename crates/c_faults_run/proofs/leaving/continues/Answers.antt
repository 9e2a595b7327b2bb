-- Where no loop is left to go on.
use Rattle.std.proofs.Common.{take}
use Rattle.c_faults_step.specs.Piles.{pending}
use Rattle.c_faults_step.specs.Steps.{functions_of, here}
use Rattle.c_faults_step.proofs.Ending.{stops_continues}
use Rattle.c_faults_run.proofs.leaving.continues.Goals as goal

pub returns-clause-meaning : goal.returns-clause-meaning
returns-clause-meaning c = λ output.
    let t = c.loop-item.tracer in
    let empty = c.in_default.ensures in
    rw c.malformed-2.ensures
    (stops_continues t.places.now (functions_of t) (pending c.pop.new.self) (pending t.items) t.running (take t.scope.base t.scope.locals.items) (here t output) _ empty.1 empty.0 (c.loop-item.invariant.meaning output))
