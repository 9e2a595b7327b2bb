-- Where the bound is spent, and where the body begins.
use Rattle.std.proofs.Common.{◌≡◌, ◌-◌, ◌<◌, ◌∷◌, Some, take, ap, ◌∙◌, arith}
use Rattle.c_program.specs.Meaning.{Outcome}
use Rattle.c_program.specs.Views.{term_tree, action_tree}
use Rattle.c_faults_step.specs.declared.item.Item.TheVariants.{Do}
use Rattle.c_faults_step.specs.Piles.{pending}
use Rattle.c_faults_step.specs.Steps.{functions_of, frame_of, here, rest_of}
use Rattle.c_faults_step.proofs.Ahead.{ahead_runs_out}
use Rattle.c_faults_step.proofs.Going.{head_goes_on}
use Rattle.c_faults_step.proofs.Turning.{head_leaves, head_spent, head_wrong}
use Rattle.c_faults_run.specs.Turning.{task_of}
use Rattle.c_faults_run.proofs.looping.head.Goals as goal

pub returns-then-cycle-eq0-clause-meaning : goal.returns-then-cycle-eq0-clause-meaning
returns-then-cycle-eq0-clause-meaning c = λ output.
    let t = c.args.tracer.now in
    head_spent t.places.now (functions_of t) c.args.cycle.bound (task_of (frame_of t) c.args.cycle) (here t output) (λ (o : Outcome). rest_of t o)
    c.if-cycle-eq0.true
    (ahead_runs_out t.places.now (functions_of t) (pending t.items) t.running (take t.scope.base t.scope.locals.items) output)

pub returns-in_ok-push-in-Ok-2-clause-meaning : goal.returns-in_ok-push-in-Ok-2-clause-meaning
returns-in_ok-push-in-Ok-2-clause-meaning c = λ output.
    let t = c.args.tracer.now in
    let bound : 0 < c.args.cycle.bound = omega arith in
    head_goes_on t.places.now (functions_of t) (pending t.items) (pending c.push-in-Ok.new.self) t.running (take t.scope.base t.scope.locals.items)
    c.args.cycle c.from_ref.result c.behind-places.result (here t output) c.in-Ok.field-0 bound c.in-Ok.ensures.0 c.in-Ok.field-0-test.1 c.behind-places.ensures
    c.from_ref.ensures.value
    (c.in_ok-push-in-Ok-2.ensures ∙ ap (λ l. Do (c.args.cycle.bound - 1) c.from_ref.result c.behind-places.result ∷ l) c.in_ok-push-in-Ok.ensures)

pub returns-in-Err-clause-meaning : goal.returns-in-Err-clause-meaning
returns-in-Err-clause-meaning c = λ output.
    let t = c.args.tracer.now in
    let k = c.args.cycle in
    let bound : 0 < k.bound = omega arith in
    head_wrong t.places.now (functions_of t) k.bound (frame_of t) k.places.now (term_tree k.condition.now) (action_tree k.body.now) (action_tree k.last.now)
    (here t output) c.in-Err.found (λ (o : Outcome). rest_of t o) bound c.in-Err.ensures.0 c.in-Err.ensures.1

pub returns-in-Ok-eq0-clause-meaning : goal.returns-in-Ok-eq0-clause-meaning
returns-in-Ok-eq0-clause-meaning c = λ output.
    let zeroed : c.in-Ok-eq0.field-0 ≡ 0 = omega arith in
    let t = c.args.tracer.now in
    let k = c.args.cycle in
    let bound : 0 < k.bound = omega arith in
    head_leaves t.places.now (functions_of t) k.bound (frame_of t) k.places.now (term_tree k.condition.now) (action_tree k.body.now) (action_tree k.last.now)
    (here t output) (λ (o : Outcome). rest_of t o) bound (c.in-Ok-eq0.ensures.0 ∙ ap Some zeroed)
