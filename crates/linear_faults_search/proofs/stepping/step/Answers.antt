-- Why `step` meets its clause `step`, reads within the functions made flat, and may call `step_in`.
use Rattle.std.proofs.Common.{◌≡◌, ◌<◌, get_or, Some, sym, ap, subst, ◌∙◌}
use Rattle.std.specs.Prelude.{IfOk, slice_get}
use Rattle.std.proofs.lemmas.Option.{slice_get-get_or}
use Rattle.linear_language.specs.Meaning.{function_step}
use Rattle.linear_run_decoded.specs.Made.{IsMade}
use Rattle.linear_faults_run.specs.Steps.{Follows}
use Rattle.linear_faults_search.proofs.Made.{made_at, made_count}
use Rattle.linear_faults_search.proofs.stepping.step.Goals as goal

pub bounds-flats-number : goal.bounds-flats-number
bounds-flats-number c =
    subst (λ n. c.args.run.now.function < n) (sym (made_count c.args.flats.now c.args.functions.now c.requires)) c.if-number-functions.false

pub step_in-requires : goal.step_in-requires
step_in-requires c =
    let number = c.args.run.now.function in
    let fs = c.args.functions.now in
    let named = c.index-functions-number.result in
    subst (λ is. IsMade is (get_or fs number named).function) (sym (c.deref.ensures.value ∙ ap (λ v. v.items) c.index-flats-number.is))
    (made_at c.args.flats.now fs number c.index-flats-number.result named c.requires c.if-number-functions.false)

pub returns-clause-step : goal.returns-clause-step
returns-clause-step c =
    let run = c.args.run.now in
    let fs = c.args.functions.now in
    let named = get_or fs run.function c.index-functions-number.result in
    let found : Some named ≡ slice_get fs run.function = sym (slice_get-get_or fs run.function c.index-functions-number.result c.if-number-functions.false) in
    subst (λ o. IfOk c.step_in.result (λ step. Follows (λ s. function_step fs s o) run step c.step_in.new.run)) found c.step_in.ensures.step
