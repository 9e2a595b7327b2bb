-- What stands behind the body is done, with the next turn behind that.
use Rattle.std.proofs.Common.{◌∷◌, take, ap, ◌∙◌}
use Rattle.c_program.specs.Views.{action_tree}
use Rattle.c_faults.specs.Places.{behind_action}
use Rattle.c_faults_step.specs.declared.item.Item.TheVariants.{Do}
use Rattle.c_faults_step.specs.Piles.{pending}
use Rattle.c_faults_step.specs.Steps.{functions_of, here}
use Rattle.c_faults_step.proofs.Going.{last_goes_on}
use Rattle.c_faults_run.proofs.looping.after_body.Goals as goal

pub returns-clause-meaning : goal.returns-clause-meaning
returns-clause-meaning c = λ output.
    let t = c.args.tracer.now in
    let k = c.args.cycle in
    last_goes_on t.places.now (functions_of t) (pending t.items) (pending c.push-2.new.self) t.running (take t.scope.base t.scope.locals.items)
    k c.from_ref.result c.behind_action-places.result (here t output)
    (c.behind_action-places.ensures ∙ ap (behind_action (action_tree k.body.now)) c.behind.ensures) c.from_ref.ensures.value
    (c.in_ok-push-2.ensures ∙ ap (λ l. Do k.bound c.from_ref.result c.behind_action-places.result ∷ l) c.in_ok-push.ensures)
