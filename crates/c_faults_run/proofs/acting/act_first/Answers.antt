-- The first action, and those behind it.
use Rattle.std.proofs.Common.{take, arith}
use Rattle.c_faults_step.specs.Piles.{pending}
use Rattle.c_faults_step.specs.Steps.{functions_of, here}
use Rattle.c_faults_run.proofs.Doing.{first_and_rest, first_goes_on, if_ok_more}
use Rattle.c_faults_run.proofs.acting.act_first.Goals as goal

pub returns-in_ok-push-in-len1-up-clause-meaning : goal.returns-in_ok-push-in-len1-up-clause-meaning
returns-in_ok-push-in-len1-up-clause-meaning c =
    let t = c.args.tracer.now in
    if_ok_more c.act.result _ _
    (λ step h. λ output.
    first_goes_on t.places.now (functions_of t) (pending t.items) (pending c.push.new.self) t.running (take t.scope.base t.scope.locals.items)
    c.args.bound c.first-item.result _ c.behind_action.result c.args.places.now c.args.actions.now (here t output) _
    c.behind_action.ensures c.in_ok-push-in-len1-up.ensures (h output) (first_and_rest _ _ (omega (arith, c.in-len1-up.len_at_least)) c.first-item.is))
    c.act.ensures.meaning
