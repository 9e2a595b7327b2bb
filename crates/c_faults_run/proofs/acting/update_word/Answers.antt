-- Whether a part of the update has no value, and whether the cell was there.
use Rattle.std.proofs.Common.{ℕ, List, Option, take, sym, ap, ◌∙◌}
use Rattle.std.specs.Option.{option_or}
use Rattle.c_program.specs.Views.{term_tree}
use Rattle.c_program.specs.State.{word}
use Rattle.c_program.specs.Meaning.{Outcome, Falls, level, updates}
use Rattle.c_meaning_machine.specs.Scopes.{state_of}
use Rattle.c_faults.specs.declared.gap.Gap.{Gap}
use Rattle.c_faults.specs.Frames.{told}
use Rattle.c_faults_step.specs.Ahead.{ahead}
use Rattle.c_faults_step.specs.Piles.{pending}
use Rattle.c_faults_step.specs.Steps.{functions_of, frame_of, here, rest_of}
use Rattle.c_faults_step.proofs.Ahead.{ahead_fails}
use Rattle.c_faults_run.proofs.acting.update_word.Goals as goal

pub returns-in-Some-clause-meaning : goal.returns-in-Some-clause-meaning
returns-in-Some-clause-meaning c = λ output.
    let t = c.args.tracer.now in
    let s = here t output in
    let o = updates c.args.global c.args.op s (word (term_tree c.args.index.now) s) (word (term_tree c.args.value.now) s) in
    ap (λ (x : Option Gap). option_or (told (frame_of t) x) (rest_of t o)) (c.in-Some.ensures output)

pub returns-then-update-clause-meaning : goal.returns-then-update-clause-meaning
returns-then-update-clause-meaning c = λ output.
    let t = c.args.tracer.now in
    let s = here t output in
    let o = updates c.args.global c.args.op s (word (term_tree c.args.index.now) s) (word (term_tree c.args.value.now) s) in
    let new = c.update.new.scope in
    let stands = λ (below : List (Option ℕ)) (o' : Outcome). ahead t.places.now (functions_of t) (pending t.items) t.running below o' in
    ap (λ base. stands (take base new.locals.items) (Falls (state_of new output))) c.update.ensures.base
    ∙ ap (λ below. stands below (Falls (state_of new output))) c.update.ensures.below
    ∙ ap (stands (take t.scope.base t.scope.locals.items)) (sym (c.if-update.ensures.ran (level (functions_of t) 0) output))
    ∙ ap (λ (x : Option Gap). option_or (told (frame_of t) x) (rest_of t o)) (c.in_default.ensures output)

pub returns-else-update-clause-meaning : goal.returns-else-update-clause-meaning
returns-else-update-clause-meaning c = λ output.
    let t = c.args.tracer.now in
    let s = here t output in
    let o = updates c.args.global c.args.op s (word (term_tree c.args.index.now) s) (word (term_tree c.args.value.now) s) in
    sym
    (ap (λ (o' : Outcome). rest_of t o') (c.if-update.ensures.ran (level (functions_of t) 0) output)
    ∙ ahead_fails t.places.now (functions_of t) (pending t.items) t.running (take t.scope.base t.scope.locals.items) output)
    ∙ ap (λ (x : Option Gap). option_or (told (frame_of t) x) (rest_of t o)) (c.in_default.ensures output)
