-- How a fault is told: the line of its place and cause, and the line of the calls that are under way.
use Rattle.std.specs.Prelude.{ℕ, ◌+◌, List, [], ◌∷◌, ◌++◌, length, take, map, Option, Some, None, codes, slice_get, nat_lt, ◌-◌, if◌then◌else◌}
use Rattle.std.specs.Fmt.{decimal}
use Rattle.std.specs.List.{flat_map}
use Rattle.c_program.specs.Trees.{FunctionTree}
use Rattle.c_program.specs.declared.function.GlobalVariable.{GlobalVariable}
use Rattle.c_faults.specs.declared.cause.Cause.{Cause}
use Rattle.c_program.specs.declared.function.Function.{Function}
use Rattle.c_program.specs.Views.{function_tree}
use Rattle.c_faults.specs.declared.fault.Site.{Site}
use Rattle.c_faults.specs.declared.fault.Fault.{Fault}
use Rattle.c_places.specs.declared.place.Place.{Place}
use Rattle.c_places.specs.Places.{place_of}
use Rattle.cfarm_explain.specs.Causes.{name_at, cause_text}

-- LINE:COLUMN
abbrev pub place_text : Place → List ℕ
place_text p = decimal p.line ++ (codes ":" ++ decimal p.column)

abbrev pub at_text : List ℕ → ℕ → List ℕ
at_text text at = place_text (place_of text at)

abbrev pub name_or_none : Option FunctionTree → List ℕ
name_or_none None = []
name_or_none (Some f) = f.name

abbrev pub function_name : List FunctionTree → ℕ → List ℕ
function_name functions n = name_or_none (slice_get functions n)

-- in NAME
abbrev pub in_text : List FunctionTree → ℕ → List ℕ
in_text functions n = codes "in " ++ function_name functions n

-- , called at LINE:COLUMN, in NAME
abbrev pub call_text : List FunctionTree → List ℕ → Site → List ℕ
call_text functions text c = codes ", called at " ++ (at_text text c.place ++ (codes ", " ++ in_text functions c.function))

abbrev pub calls_text : List FunctionTree → List ℕ → List Site → List ℕ
calls_text functions text cs = flat_map (call_text functions text) cs

-- the calls that are told, the innermost first, and how many more there are
abbrev pub told_calls : ℕ
told_calls = 16

abbrev pub untold_text : ℕ → List ℕ
untold_text n = codes ", and " ++ (decimal n ++ codes " calls more")

abbrev pub more_text : ℕ → List ℕ
more_text n = if nat_lt told_calls n then untold_text (n - told_calls) else []

abbrev pub stack_text : List FunctionTree → List ℕ → ℕ → List Site → List ℕ
stack_text functions text n callers =
    in_text functions n ++ (calls_text functions text (take told_calls callers) ++ more_text (length callers))

-- the same by the functions themselves
abbrev pub stack_lines : List Function → List ℕ → ℕ → List Site → List ℕ
stack_lines functions text n callers = stack_text (map function_tree functions) text n callers

-- FILE:LINE:COLUMN: error: CAUSE
abbrev pub cause_line : List ℕ → List ℕ → List GlobalVariable → ℕ → Cause → List ℕ
cause_line path text globals at cause =
    path ++ (codes ":" ++ (at_text text at ++ (codes ": error: " ++ cause_text globals (name_at text at) cause)))

-- The two lines of a fault.
abbrev pub fault_text : List ℕ → List ℕ → List GlobalVariable → List FunctionTree → Fault → List ℕ
fault_text path text globals functions f =
    cause_line path text globals f.at.place f.cause ++ (codes "\n" ++ (stack_text functions text f.at.function f.callers ++ codes "\n"))

-- the same by the functions themselves
abbrev pub all_lines : List ℕ → List ℕ → List GlobalVariable → List Function → Fault → List ℕ
all_lines path text globals functions f = fault_text path text globals (map function_tree functions) f
