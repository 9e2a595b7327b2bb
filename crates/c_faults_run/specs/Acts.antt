-- Actions by their parts: where a run arrives that does one, and what it costs at most.
use Rattle.std.specs.Prelude.{ℕ, ◌+◌, List}
use Rattle.ints.specs.declared.operators.Op.{Op}
use Rattle.c_program.specs.declared.term.Term.{Term}
use Rattle.c_program.specs.declared.action.Value.{Value}
use Rattle.c_program.specs.declared.action.Target.{Target}
use Rattle.c_program.specs.Views.{term_tree, given_tree, action_tree}
use Rattle.c_program.specs.Meaning.{branches, exec, gives, level, stores, updates}
use Rattle.c_program.specs.State.{word}
use Rattle.std.specs.Option.{option_or}
use Rattle.c_meaning_machine.specs.Costs.{cost, given_cost, level_cost}
use Rattle.c_faults.specs.Places.{behind, behind_action}
use Rattle.c_faults.specs.Gaps.{by_word}
use Rattle.c_faults.specs.Changes.{gap_in, store_gap, update_gap}
use Rattle.c_faults.specs.Frames.{told}
use Rattle.c_faults.specs.Faults.{fault, given_fault, blames}
use Rattle.c_faults_run.specs.declared.choice.Choice.{Choice}
use Rattle.c_faults_step.specs.declared.step.Step.{Step}
use Rattle.c_faults_step.specs.declared.tracer.Tracer.{Tracer}
use Rattle.c_faults_step.specs.Steps.{functions_of, here, frame_of, rest_of, rest_cost, Meets, Reaches}

-- what gives a value
abbrev pub Gives : Tracer → Tracer → ℕ → List ℕ → Target → Value → Step → Type 0
Gives old new n ps target value step =
    let lower = level (functions_of old) n in
    let blame = blames old.places.now (functions_of old) n in
    Meets step new
    (λ output.
    option_or (given_fault (frame_of old) lower blame ps target (given_tree value) (here old output))
    (rest_of old (gives lower target (given_tree value) (here old output))))

abbrev pub giving_cost : Tracer → ℕ → Value → ℕ
giving_cost t n value = given_cost (level_cost (functions_of t) n) (given_tree value) + rest_cost t

-- a store
abbrev pub StoresWord : Tracer → Tracer → List ℕ → ℕ → Term → Term → Step → Type 0
StoresWord old new ps g index value =
    Reaches old new (λ s. store_gap ps g (term_tree index) (term_tree value) s) (λ s. stores g s (word (term_tree index) s) (word (term_tree value) s))

-- an update
abbrev pub UpdatesWord : Tracer → Tracer → List ℕ → ℕ → Term → Op → Term → Step → Type 0
UpdatesWord old new ps g index o value =
    Reaches old new (λ s. update_gap ps g (term_tree index) o (term_tree value) s)
    (λ s. updates g o s (word (term_tree index) s) (word (term_tree value) s))

-- one of two actions, by a condition
abbrev pub Chooses : Tracer → Tracer → ℕ → Choice → Step → Type 0
Chooses old new n choice step =
    let lower = level (functions_of old) n in
    let blame = blames old.places.now (functions_of old) n in
    let f = frame_of old in
    let ps = choice.places.now in
    let c = term_tree choice.condition.now in
    let then = action_tree choice.then.now in
    let other = action_tree choice.other.now in
    Meets step new
    (λ output.
    let s = here old output in
    option_or
    (by_word (word c s) (told f (gap_in ps c s)) (fault f lower blame (behind_action then (behind c ps)) other s)
    (fault f lower blame (behind c ps) then s))
    (rest_of old (branches s (word c s) (exec lower then s) (exec lower other s))))

abbrev pub choice_cost : Tracer → ℕ → Choice → ℕ
choice_cost t n choice =
    let costs = level_cost (functions_of t) n in
    2 + (cost costs (action_tree choice.then.now) + cost costs (action_tree choice.other.now)) + rest_cost t
