-- Where main returns no word.
use Rattle.std.proofs.Common.{take}
use Rattle.c_faults_step.specs.Piles.{pending}
use Rattle.c_faults_step.specs.Steps.{functions_of, here}
use Rattle.c_faults_step.proofs.Ending.{stops_returns}
use Rattle.c_faults_run.proofs.leaving.returns.Goals as goal

pub returns-in-None-clause-meaning : goal.returns-in-None-clause-meaning
returns-in-None-clause-meaning c = λ output.
    let t = c.loop-item.tracer in
    let empty = c.in_default.ensures in
    rw c.malformed.ensures
    (stops_returns t.places.now (functions_of t) (pending c.pop.new.self) (pending t.items) t.running (take t.scope.base t.scope.locals.items) c.args.word (here t output) _ c.in-None.is empty.1 empty.0 (c.loop-item.invariant.meaning output))
