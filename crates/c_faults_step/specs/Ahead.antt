-- Where a stopped run still goes wrong: the fault of what is left to do.
use Rattle.std.specs.Prelude.{ℕ, List, [], ◌∷◌, Option, take, drop}
use Rattle.std.specs.Option.{option_or}
use Rattle.c_program.specs.Trees.{FunctionTree}
use Rattle.c_program.specs.Views.{term_tree, action_tree, actions_tree}
use Rattle.c_program.specs.Meaning.{Outcome, goes_on, exec_all, turns_again, after_body, comes_back, ends, level}
use Rattle.c_faults.specs.declared.fault.Site.{Site}
use Rattle.c_faults.specs.declared.fault.Fault.{Fault}
use Rattle.c_faults.specs.Changes.{back_gap, end_gap, main_gap}
use Rattle.c_faults.specs.Frames.{Frame, told, Places}
use Rattle.c_faults.specs.Faults.{if_falls, fault_all, again_fault, after_fault, blames}
use Rattle.c_faults_step.specs.declared.item.Item.{Item}
use Rattle.c_faults_step.specs.declared.item.Item.TheVariants.{Do, Body, Last, Back}
use Rattle.c_faults_step.specs.declared.item.Running.{Running}

-- the calls under way, the innermost first
abbrev pub callers_of : List Item → List Site
callers_of [] = []
callers_of (Do n actions ps ∷ items) = callers_of items
callers_of (Body c ∷ items) = callers_of items
callers_of (Last c ∷ items) = callers_of items
callers_of (Back w ∷ items) = record { function = w.running.function; place = w.place } ∷ callers_of items

-- nothing of the running function is left to do
abbrev pub IsAtEnd : List Item → Type 0
IsAtEnd [] = Unit {0}
IsAtEnd (Do n actions ps ∷ items) = ⊥
IsAtEnd (Body c ∷ items) = ⊥
IsAtEnd (Last c ∷ items) = ⊥
IsAtEnd (Back w ∷ items) = Unit {0}

abbrev pub frame : Running → List Item → Frame
frame r items = record { function = r.function; callers = callers_of items }

-- What goes wrong behind an outcome that does not fail, the top of the pile first. The callers' locals lie below those of the
-- running function, each caller's behind those of its own.
abbrev pub ahead : Places → List FunctionTree → List Item → Running → List (Option ℕ) → Outcome → Option Fault
ahead places functions [] r below o =
    option_or (told (frame r []) (end_gap r.end r.ending o)) (told (frame r []) (main_gap 0 (ends r.ending o)))
ahead places functions (Do n actions ps ∷ items) r below o =
    option_or (if_falls (fault_all (frame r items) (level functions n) (blames places functions n) ps.now (actions_tree actions.now)) o)
    (ahead places functions items r below (goes_on (exec_all (level functions n) (actions_tree actions.now)) o))
ahead places functions (Body c ∷ items) r below o =
    let lower = level functions c.bound in
    let condition = term_tree c.condition.now in
    let body = action_tree c.body.now in
    let last = action_tree c.last.now in
    option_or (after_fault (frame r items) lower (blames places functions c.bound) c.places.now condition body last o)
    (ahead places functions items r below (after_body lower condition body last o))
ahead places functions (Last c ∷ items) r below o =
    let condition = term_tree c.condition.now in
    let body = action_tree c.body.now in
    let last = action_tree c.last.now in
    option_or (again_fault (frame r items) (blames places functions c.bound) c.places.now condition body last o)
    (ahead places functions items r below (turns_again (level functions c.bound) condition body last o))
ahead places functions (Back w ∷ items) r below o =
    option_or (told (frame r (Back w ∷ items)) (end_gap r.end r.ending o))
    (option_or (told (frame w.running items) (back_gap w.place w.target (ends r.ending o)))
    (ahead places functions items w.running (take w.base below) (comes_back w.target (drop w.base below) (ends r.ending o))))
