use Rattle.std.proofs.Common.{refl, sym, subst, ◌∙◌, Option, Bool}
use Rattle.std.specs.Option.{option_map}
use Rattle.x86_state.specs.State.{does}
use Rattle.x86.specs.declared.outcome.Outcome.TheVariants as o
use Rattle.x86.specs.Comparing.{with_flag}
use Rattle.x86.specs.Runs.{Comes, state_of}
use Rattle.x86.proofs.comparing.flag.Goals as goal

pub returns-in-None : goal.returns-in-None
returns-in-None c = λ words.
    let s = state_of words c.args.run.now in
    subst (λ (answer : Option Bool). Comes (does (option_map (with_flag c.args.target s) answer)) s o.Stuck s) (sym c.in-None.is ∙ c.ask.ensures words) refl

pub returns-in-Some : goal.returns-in-Some
returns-in-Some c = λ words.
    let s = state_of words c.args.run.now in
    let t = state_of words c.give_flag.new.run in
    subst (λ (answer : Option Bool). Comes (does (option_map (with_flag c.args.target s) answer)) s c.give_flag.result t)
    (sym c.in-Some.is ∙ c.ask.ensures words) (c.give_flag.ensures words)
