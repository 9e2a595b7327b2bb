-- The ends of functions, and what goes wrong behind them.
use Rattle.std.specs.Prelude.{◌≡◌, ℕ, List, ◌∷◌, Option, MatchOption, take, drop}
use Rattle.std.specs.Option.{option_or}
use Rattle.c_program.specs.Meaning.{Outcome, Returns, comes_back, ends}
use Rattle.c_faults.specs.declared.fault.Fault.{Fault}
use Rattle.c_faults.specs.Changes.{back_gap, end_gap}
use Rattle.c_faults.specs.Frames.{told}
use Rattle.c_faults_step.specs.declared.item.Item.TheVariants.{Back}
use Rattle.c_faults_step.specs.declared.item.Waiting.{Waiting}
use Rattle.c_faults_step.specs.declared.step.Step.{Step}
use Rattle.c_faults_step.specs.declared.tracer.Tracer.{Tracer}
use Rattle.c_faults_step.specs.Piles.{pending}
use Rattle.c_faults_step.specs.Ahead.{frame, ahead}
use Rattle.c_faults_step.specs.Steps.{functions_of, here, rest_of, Meets}

-- what goes wrong behind an outcome of a callee whose caller stands no more on the pile
abbrev pub back_of : Tracer → Waiting → Outcome → Option Fault
back_of t w o =
    let items = pending t.items in
    let below = take t.scope.base t.scope.locals.items in
    option_or (told (frame t.running (Back w ∷ items)) (end_gap t.running.end t.running.ending o))
    (option_or (told (frame w.running items) (back_gap w.place w.target (ends t.running.ending o)))
    (ahead t.places.now (functions_of t) items w.running (take w.base below) (comes_back w.target (drop w.base below) (ends t.running.ending o))))

-- A callee has returned to this caller: a next step, or none where the caller returns the same word.
abbrev pub ComesBack : Tracer → Tracer → Waiting → Option ℕ → Option Step → Type 0
ComesBack old new caller word answer =
    MatchOption answer
    ((output : List ℕ) → back_of old caller (Returns word (here old output)) ≡ rest_of new (Returns word (here new output)))
    (λ step. Meets step new (λ output. back_of old caller (Returns word (here old output))))
