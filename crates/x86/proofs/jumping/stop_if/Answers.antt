use Rattle.std.proofs.Common.{◌≡◌, refl, sym, subst, ◌∙◌, Option, Some, Bool, true, false}
use Rattle.x86_state.specs.State.{Stops}
use Rattle.x86.specs.declared.outcome.Outcome.TheVariants as o
use Rattle.x86.specs.Comparing.{asked}
use Rattle.x86.specs.Jumping.{takes_if}
use Rattle.x86.specs.Runs.{Comes, state_of}
use Rattle.x86.proofs.jumping.stop_if.Goals as goal

pub returns-in-None : goal.returns-in-None
returns-in-None c = λ words.
    let s = state_of words c.args.run.now in
    subst (λ (answer : Option Bool). Comes (takes_if answer Stops s) s o.Stuck s) (sym c.in-None.is ∙ c.ask.ensures words) refl

pub returns-in-Some-true : goal.returns-in-Some-true
returns-in-Some-true c = λ words.
    let s = state_of words c.args.run.now in
    let e : Some true ≡ asked c.args.condition s = cc (c.ask.ensures words) in
    subst (λ (answer : Option Bool). Comes (takes_if answer Stops s) s o.Stops s) e refl

pub returns-in-Some-false : goal.returns-in-Some-false
returns-in-Some-false c = λ words.
    let s = state_of words c.args.run.now in
    let e : Some false ≡ asked c.args.condition s = cc (c.ask.ensures words) in
    subst (λ (answer : Option Bool). Comes (takes_if answer Stops s) s c.go_on.result (state_of words c.go_on.new.run)) e (c.go_on.ensures words)
