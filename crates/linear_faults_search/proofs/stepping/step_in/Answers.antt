-- Why `step_in` meets its clause `step`, reads within the code made flat, and may call `do_one`.
use Rattle.std.proofs.Common.{◌≡◌, ◌<◌, length, get_or, Some, sym, ap, subst, ◌∙◌}
use Rattle.std.specs.Prelude.{IfOk, slice_get}
use Rattle.std.proofs.lemmas.Option.{slice_get-get_or}
use Rattle.linear_language.specs.Function.{InstructionFits}
use Rattle.linear_language.specs.Meaning.{instruction_step}
use Rattle.linear_run_decoded.specs.Plain.{plain_of}
use Rattle.linear_run_decoded.proofs.Made.{all_at}
use Rattle.linear_faults_run.specs.Steps.{Follows}
use Rattle.linear_faults_search.proofs.Made.{flat_at, flat_count}
use Rattle.linear_faults_search.proofs.stepping.step_in.Goals as goal

pub bounds-flats-place : goal.bounds-flats-place
bounds-flats-place c =
    let f = c.args.function.now in
    let same : c.as_slice-code.result.now ≡ f.code = c.as_slice-code.ensures ∙ c.code.ensures.code in
    subst (λ n. c.args.run.now.place < n) (ap length same ∙ sym (flat_count f.code c.args.flats.now f.code c.requires.flat)) c.if-place-code.false

pub do_one-requires-clause-low : goal.do_one-requires-clause-low
do_one-requires-clause-low c =
    let f = c.args.function.now in
    let place = c.args.run.now.place in
    let i = c.index-code-place.result in
    let same : c.as_slice-code.result.now ≡ f.code = c.as_slice-code.ensures ∙ c.code.ensures.code in
    let here : i ≡ get_or f.code place i = c.index-code-place.is ∙ ap (λ is. get_or is place i) same in
    let below : place < length f.code = subst (λ is. place < length is) same c.if-place-code.false in
    record {
      slots = f.slots;
      few = c.code.ensures.in_range.slots;
      fits = subst (InstructionFits f.slots) (sym here) (all_at (InstructionFits f.slots) f.code place i c.code.ensures.in_range.each below);
    }

pub do_one-requires-clause-flat : goal.do_one-requires-clause-flat
do_one-requires-clause-flat c =
    let f = c.args.function.now in
    let place = c.args.run.now.place in
    let i = c.index-code-place.result in
    let same : c.as_slice-code.result.now ≡ f.code = c.as_slice-code.ensures ∙ c.code.ensures.code in
    let here : i ≡ get_or f.code place i = c.index-code-place.is ∙ ap (λ is. get_or is place i) same in
    let below : place < length f.code = subst (λ is. place < length is) same c.if-place-code.false in
    flat_at f.code c.args.flats.now f.code place _ i c.requires.flat below ∙ ap (plain_of f.code) (sym here) ∙ ap (λ is. plain_of is i) (sym same)

pub returns-clause-step : goal.returns-clause-step
returns-clause-step c =
    let f = c.args.function.now in
    let fs = c.args.functions.now in
    let run = c.args.run.now in
    let i = c.index-code-place.result in
    let same : c.as_slice-code.result.now ≡ f.code = c.as_slice-code.ensures ∙ c.code.ensures.code in
    let here : i ≡ get_or f.code run.place i = c.index-code-place.is ∙ ap (λ is. get_or is run.place i) same in
    let below : run.place < length f.code = subst (λ is. run.place < length is) same c.if-place-code.false in
    let found : Some i ≡ slice_get f.code run.place = ap (λ j. Some j) here ∙ sym (slice_get-get_or f.code run.place i below) in
    subst (λ o. IfOk c.do_one.result (λ step. Follows (λ s. instruction_step fs f.code s o) run step c.do_one.new.run)) found
    (subst (λ is. IfOk c.do_one.result (λ step. Follows (λ s. instruction_step fs is s (Some i)) run step c.do_one.new.run)) same c.do_one.ensures.step)
