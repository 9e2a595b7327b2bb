-- What runs: the function and the calls that are under way.
use Rattle.std.specs.Prelude.{ℕ, List, ◌∷◌, Option, slice_index_or, []}
use Rattle.std.specs.Option.{option_map}
use Rattle.c_program.specs.Trees.{TermTree, ActionTree}
use Rattle.c_program.specs.State.{State}
use Rattle.c_program.specs.Meaning.{Work}
use Rattle.c_program.specs.Meaning as M
use Rattle.c_faults.specs.declared.gap.Gap.{Gap}
use Rattle.c_faults.specs.declared.fault.Site.{Site}
use Rattle.c_faults.specs.declared.fault.Fault.{Fault}

-- the running function's number, and the calls under way, the innermost first
pub record Frame : Type 0 where
  pub function : ℕ
  pub callers : List Site

-- a gap in this frame is the fault of the run
abbrev pub told : Frame → Option Gap → Option Fault
told f found = option_map (λ g. record { cause = g.cause; at = record { function = f.function; place = g.place }; callers = f.callers }) found

-- the calls under way in a function that is called here
abbrev pub calling : Frame → ℕ → List Site
calling f at = record { function = f.function; place = at } ∷ f.callers

-- what may be done with one bound less: a loop from its head on, where its condition's places and the others' stand, or a
-- function, called from there, on these arguments
pub data Task : Type 0 where
  Turns : (f : Frame) (ps : List ℕ) (c : TermTree) (body last : ActionTree) → Task
  Calls : (callers : List Site) (function : ℕ) (arguments : List ℕ) → Task

abbrev pub work_of : Task → Work
work_of (Turns f ps c body last) = M.Turns c body last
work_of (Calls callers function arguments) = M.Calls function arguments

-- where what runs with some bound goes wrong
abbrev pub Blame : Type 0
Blame = Task → State → Option Fault

-- the places of each function: of its end, and then of its parts
abbrev pub Places : Type 0
Places = List (List ℕ)

abbrev pub places_in : Places → ℕ → List ℕ
places_in places function = slice_index_or places function []
