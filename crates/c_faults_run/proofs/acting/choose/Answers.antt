-- Where the condition has no value, where it is 0, and where it is not.
use Rattle.std.proofs.Common.{◌≡◌, Some, take, ap, ◌∙◌, arith}
use Rattle.c_program.specs.Meaning.{Outcome}
use Rattle.c_program.specs.Views.{term_tree, action_tree}
use Rattle.c_faults.specs.Places.{behind, behind_action}
use Rattle.c_faults_step.specs.Piles.{pending}
use Rattle.c_faults_step.specs.Steps.{functions_of, frame_of, here, rest_of}
use Rattle.c_faults_step.proofs.Choosing.{choice_wrong, choice_zero, choice_more}
use Rattle.c_faults_step.proofs.Going.{does_alone}
use Rattle.c_faults_run.proofs.acting.choose.Goals as goal

pub returns-in-Err-clause-meaning : goal.returns-in-Err-clause-meaning
returns-in-Err-clause-meaning c = λ output.
    let t = c.args.tracer.now in
    choice_wrong (frame_of t) c.args.choice.places.now (here t output) (term_tree c.args.choice.condition.now) _ _ _ _ (λ (o : Outcome). rest_of t o)
    c.in-Err.found c.in-Err.ensures.0 c.in-Err.ensures.1

pub returns-in_ok-push-in-Ok-eq0-clause-meaning : goal.returns-in_ok-push-in-Ok-eq0-clause-meaning
returns-in_ok-push-in-Ok-eq0-clause-meaning c = λ output.
    let zeroed : c.in-Ok-eq0.field-0 ≡ 0 = omega arith in
    let t = c.args.tracer.now in
    let k = c.args.choice in
    let ps = behind_action (action_tree k.then.now) (behind (term_tree k.condition.now) k.places.now) in
    does_alone t.places.now (functions_of t) (pending t.items) (pending c.push.new.self) t.running (take t.scope.base t.scope.locals.items)
    c.args.bound k.other.now c.from_ref.result c.behind_action-left.result ps (here t output)
    (c.behind_action-left.ensures ∙ ap (behind_action (action_tree k.then.now)) c.behind-then_places.ensures) c.from_ref.ensures.value c.in_ok-push-in-Ok-eq0.ensures
    ∙ choice_zero (here t output) (term_tree k.condition.now) _ _ _ _ _ (λ (o : Outcome). rest_of t o) (c.in-Ok-eq0.ensures.0 ∙ ap Some zeroed)

pub returns-in_ok-push-in-Ok-clause-meaning : goal.returns-in_ok-push-in-Ok-clause-meaning
returns-in_ok-push-in-Ok-clause-meaning c = λ output.
    let t = c.args.tracer.now in
    let k = c.args.choice in
    does_alone t.places.now (functions_of t) (pending t.items) (pending c.push-in-Ok.new.self) t.running (take t.scope.base t.scope.locals.items)
    c.args.bound k.then.now c.from_ref-then.result c.behind-then_places.result (behind (term_tree k.condition.now) k.places.now) (here t output)
    c.behind-then_places.ensures c.from_ref-then.ensures.value c.in_ok-push-in-Ok.ensures
    ∙ choice_more (here t output) (term_tree k.condition.now) _ _ _ _ _ (λ (o : Outcome). rest_of t o) c.in-Ok.field-0 c.in-Ok.ensures.0 c.in-Ok.field-0-test.1
