-- Calls: the words of arguments, and the function that begins.
use Rattle.std.specs.Prelude.{◌≡◌, ℕ, ◌+◌, List, [], length, Option, Some, None, map, slice_get}
use Rattle.std.specs.Option.{option_or}
use Rattle.c_program.specs.declared.action.Called as C
use Rattle.c_program.specs.declared.action.Target.{Target}
use Rattle.c_program.specs.declared.function.Function.{Function}
use Rattle.c_program.specs.Trees.{Called}
use Rattle.c_program.specs.Meaning.{Level, gives, begins, enters, ends, exec_all, comes_back, level}
use Rattle.c_program.specs.Meaning as M
use Rattle.c_meaning_machine.specs.Costs.{Costs, body_cost, cost_all, level_cost}
use Rattle.c_program.specs.declared.term.Term.{Term}
use Rattle.c_program.specs.Views.{term_tree, actions_tree, function_tree}
use Rattle.c_program.specs.State.{State, words}
use Rattle.c_meaning_machine.specs.declared.scope.Scope.{Scope}
use Rattle.c_meaning_machine.specs.Scopes.{state_of, variables_of}
use Rattle.c_faults.specs.declared.gap.Gap.{Gap}
use Rattle.c_faults.specs.Gaps.{first_gap}
use Rattle.c_faults.specs.declared.fault.Site.{Site}
use Rattle.c_faults.specs.Changes.{malformed, back_gap}
use Rattle.c_faults.specs.Frames.{Frame, told, calling, Blame, Places, places_in}
use Rattle.c_faults.specs.Faults.{given_fault, body_fault, entered_fault, blames}
use Rattle.c_faults_step.specs.declared.step.Step.{Step}
use Rattle.c_faults_step.specs.declared.tracer.Tracer.{Tracer}
use Rattle.c_faults_step.specs.Steps.{functions_of, here, frame_of, rest_of, rest_cost, Meets}

-- the words of these arguments, where each has one, or their first gap
abbrev pub AreWorth : List ℕ → List Term → Scope → List ℕ → Option Gap → Type 0
AreWorth ps arguments scope ws None =
    (words (map term_tree arguments) (state_of scope []) ≡ Some ws) × (first_gap ps (variables_of scope) (map term_tree arguments) ≡ None)
AreWorth ps arguments scope ws (Some g) =
    (words (map term_tree arguments) (state_of scope []) ≡ None) × (first_gap ps (variables_of scope) (map term_tree arguments) ≡ Some g)

-- With so many arguments, what enters the function of this number is this function's body.
abbrev pub Enters : List Function → ℕ → ℕ → Function → Type 0
Enters functions number count f =
    (lower : Level) (ws : List ℕ) (s : State) → length ws ≡ count →
    let g = function_tree f in
    enters lower (slice_get (map function_tree functions) number) ws s ≡ ends g.ending (exec_all lower g.body (begins g ws s))

-- The function of this number costs what this function's body does.
abbrev pub CostsItsBody : List Function → ℕ → Function → Type 0
CostsItsBody functions number f =
    (lower : Costs) → body_cost lower (slice_get (map function_tree functions) number) ≡ cost_all lower (actions_tree f.body)

-- With so many arguments, what enters the function of this number goes wrong at once.
abbrev pub BlamesNone : List Function → ℕ → ℕ → Type 0
BlamesNone functions number count =
    (places : Places) (lower : Level) (blame : Blame) (callers : List Site) (ws : List ℕ) (s : State) → length ws ≡ count →
    entered_fault places lower blame callers number (slice_get (map function_tree functions) number) ws s
    ≡ told (record { function = number; callers = callers }) (malformed 0)

-- With so many arguments, what enters the function of this number goes wrong where this function's body does.
abbrev pub BlamesBody : List Function → ℕ → ℕ → Function → Type 0
BlamesBody functions number count f =
    (places : Places) (lower : Level) (blame : Blame) (callers : List Site) (ws : List ℕ) (s : State) → length ws ≡ count →
    let g = function_tree f in
    let at : Frame = record { function = number; callers = callers } in
    entered_fault places lower blame callers number (slice_get (map function_tree functions) number) ws s
    ≡ body_fault at lower blame (places_in places number) g (begins g ws s)

-- a call, with this bound, whose places these are
abbrev pub Calling : Tracer → Tracer → ℕ → List ℕ → Target → C.Called → Step → Type 0
Calling old new n ps target called step =
    let lower = level (functions_of old) n in
    let blame = blames old.places.now (functions_of old) n in
    let given = Called called.function (map term_tree called.arguments) in
    Meets step new
    (λ output.
    option_or (given_fault (frame_of old) lower blame ps target given (here old output)) (rest_of old (gives lower target given (here old output))))

abbrev pub calling_cost : Tracer → ℕ → C.Called → ℕ
calling_cost t n called = 2 + level_cost (functions_of t) n (M.Calls called.function []) + rest_cost t

-- a function begins with this bound on the words of its arguments, called at this place
abbrev pub Entering : Tracer → Tracer → ℕ → Target → ℕ → ℕ → Step → Type 0
Entering old new n target number at step =
    let lower = level (functions_of old) n in
    let blame = blames old.places.now (functions_of old) n in
    let f = frame_of old in
    let callee = slice_get (functions_of old) number in
    let arguments = old.words.items in
    Meets step new
    (λ output.
    let s = here old output in
    option_or (entered_fault old.places.now lower blame (calling f at) number callee arguments s)
    (option_or (told f (back_gap at target (enters lower callee arguments s)))
    (rest_of old (comes_back target s.locals (enters lower callee arguments s)))))

abbrev pub entering_cost : Tracer → ℕ → ℕ → ℕ
entering_cost t n number = 3 + body_cost (level_cost (functions_of t) n) (slice_get (functions_of t) number) + rest_cost t
