-- Where there is no such function, and the function's body with its caller behind it.
use Rattle.std.proofs.Common.{◌≡◌, ℕ, ◌++◌, ◌∷◌, List, length, map, Option, Some, sym, ap, ◌∙◌, arith, rules}
use Rattle.std.specs.Prelude.{slice_get}
use Rattle.std.specs.Option.{option_or}
use Rattle.c_program.specs.declared.function.Ending.TheVariants as E
use Rattle.c_program.specs.Meaning.{comes_back, enters, level}
use Rattle.c_program.specs.Views.{actions_tree}
use Rattle.c_meaning_machine.specs.Costs.{cost_all, level_cost}
use Rattle.c_faults.specs.declared.fault.Fault.{Fault}
use Rattle.c_faults.specs.Changes.{back_gap, malformed}
use Rattle.c_faults.specs.Places.{others, own}
use Rattle.c_faults.specs.Faults.{blames}
use Rattle.c_faults.specs.Frames.{calling, told}
use Rattle.c_faults_step.specs.declared.item.Item.{Item}
use Rattle.c_faults_step.specs.declared.item.Item.TheVariants.{Do}
use Rattle.c_faults_step.specs.declared.item.Running.{Running}
use Rattle.c_faults_step.specs.declared.item.Waiting.{Waiting}
use Rattle.c_faults_step.specs.Ahead.{frame}
use Rattle.c_faults_step.specs.Costs.{items_cost}
use Rattle.c_faults_step.specs.Piles.{pending}
use Rattle.c_faults_step.specs.Steps.{functions_of, frame_of, here, rest_of}
use Rattle.c_faults_step.proofs.Going.{body_goes_on}
use Rattle.c_faults_run.proofs.calling.enter.Goals as goal

pub returns-in-None-clause-meaning : goal.returns-in-None-clause-meaning
returns-in-None-clause-meaning c = λ output.
    let t = c.args.tracer.now in
    let lower = level (functions_of t) c.args.bound in
    let ws = t.words.items in
    let s = here t output in
    let f = frame_of t in
    let many : length ws ≡ c.len.result = search (arith, rules) in
    let callee : Running = record { function = c.args.number; ending = E.Returns; end = c.own.result } in
    let back = enters lower (slice_get (functions_of t) c.args.number) ws s in
    let rest = option_or (told f (back_gap c.args.at c.args.target back)) (rest_of t (comes_back c.args.target s.locals back)) in
    ap (λ (l : List Item). told (frame callee l) (malformed 0)) c.in_ok-push.ensures
    ∙ sym
    (ap (λ (x : Option Fault). option_or x rest)
    (c.in-None.ensures.blamed t.places.now lower (blames t.places.now (functions_of t) c.args.bound) (calling f c.args.at) ws s many))

pub returns-in_ok-push-in-Some-clause-meaning : goal.returns-in_ok-push-in-Some-clause-meaning
returns-in_ok-push-in-Some-clause-meaning c = λ output.
    let t = c.args.tracer.now in
    let n = c.args.bound in
    let g = c.in-Some.function.now in
    let locals = t.scope.locals.items in
    let ws = t.words.items in
    let caller : Waiting = record { running = t.running; target = c.args.target; place = c.args.at; base = t.scope.base } in
    let lower = level (functions_of t) n in
    let count : length locals ≡ c.len-end.result = search (arith, rules) in
    let many : length ws ≡ c.len.result = search (arith, rules) in
    body_goes_on t.places.now (functions_of t) (pending t.items) (pending c.push-in-Some.new.self) caller n c.args.number c.len-end.result c.own.result
    c.saturating_sub.result g c.as_slice-body.result c.others.result ws locals c.push_words.new.locals.items c.push_blank.new.locals.items
    t.scope.globals.items output count c.saturating_sub.ensures
    (c.in_ok-push_words-in-Some.ensures ∙ ap (λ (l : List ℕ). locals ++ map Some l) c.deref.ensures.value)
    c.in_ok-push_blank-in-Some.ensures
    (c.own.ensures ∙ ap own c.places_in-places.ensures)
    (c.others.ensures ∙ ap others c.places_in-places.ensures)
    c.as_slice-body.ensures
    (c.in_ok-push-in-Some.ensures ∙ ap (λ l. Do n c.as_slice-body.result c.others.result ∷ l) c.in_ok-push.ensures)
    (c.in-Some.ensures.blames t.places.now lower (blames t.places.now (functions_of t) n) (calling (frame_of t) c.args.at) ws (here t output) many)
    (c.in-Some.ensures.found lower ws (here t output) many)

pub returns-in_ok-push-in-Some-clause-cost : goal.returns-in_ok-push-in-Some-clause-cost
returns-in_ok-push-in-Some-clause-cost c =
    let t = c.args.tracer.now in
    let lower = level_cost (functions_of t) c.args.bound in
    let pile = c.in_ok-push-in-Some.ensures ∙ ap (λ l. Do c.args.bound c.as_slice-body.result c.others.result ∷ l) c.in_ok-push.ensures in
    omega
    (arith, ap (items_cost (functions_of t)) pile, ap (λ l. cost_all lower (actions_tree l)) c.as_slice-body.ensures, c.in-Some.ensures.cost lower)
