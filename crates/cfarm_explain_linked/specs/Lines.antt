-- How a fault is told: the line of its place and cause, that of its instruction, and that of the calls that are under way.
use Rattle.std.specs.Prelude.{ℕ, ◌+◌, ◌-◌, List, [], ◌++◌, length, take, Option, Some, None, codes, slice_get, nat_lt, if◌then◌else◌}
use Rattle.std.specs.Fmt.{decimal}
use Rattle.std.specs.List.{flat_map}
use Rattle.lang_base.specs.declared.program.Global.{Global}
use Rattle.lang_base.specs.declared.program.Named.{Named}
use Rattle.lang_base.specs.declared.program.Program.{Program}
use Rattle.linear_language.specs.declared.instruction.Instruction.{Instruction}
use Rattle.linear_language.specs.Function.{FunctionData}
use Rattle.linear_faults.specs.declared.cause.Cause.{Cause}
use Rattle.linear_faults.specs.declared.fault.Fault.{Fault}
use Rattle.linear_faults.specs.declared.fault.Site.{Site}
use Rattle.text_linear.specs.Shown.{shown_instruction}
use Rattle.cfarm_explain_linked.specs.Causes.{cause_text}

-- the line of an instruction below its function's first: they count from 1
abbrev pub line_number : ℕ → List ℕ
line_number place = decimal (place + 1)

abbrev pub name_or_none : Option (Named FunctionData) → List ℕ
name_or_none None = []
name_or_none (Some f) = f.name

abbrev pub function_name : List (Named FunctionData) → ℕ → List ℕ
function_name functions number = name_or_none (slice_get functions number)

-- :NAME:LINE
abbrev pub place_text : List ℕ → ℕ → List ℕ
place_text name place = codes ":" ++ (name ++ (codes ":" ++ line_number place))

-- the same, or nothing where there is no such function
abbrev pub named_place : ℕ → Option (Named FunctionData) → List ℕ
named_place place None = []
named_place place (Some f) = place_text f.name place

-- FILE:NAME:LINE: error: CAUSE
abbrev pub cause_line : List ℕ → List Global → List (Named FunctionData) → Site → Cause → List ℕ
cause_line path globals functions at cause =
    path ++ (named_place at.place (slice_get functions at.function) ++ (codes ": error: " ++ (cause_text globals functions cause ++ codes "\n")))

-- the instruction as `show` writes it, if there is one
abbrev pub instruction_or_none : Option Instruction → List ℕ
instruction_or_none None = []
instruction_or_none (Some i) = shown_instruction i

abbrev pub line_at : ℕ → Option (Named FunctionData) → List ℕ
line_at place None = []
line_at place (Some f) = instruction_or_none (slice_get f.function.code place)

-- , called at LINE, in NAME
abbrev pub call_text : List (Named FunctionData) → Site → List ℕ
call_text functions c = codes ", called at " ++ (line_number c.place ++ (codes ", in " ++ function_name functions c.function))

abbrev pub calls_text : List (Named FunctionData) → List Site → List ℕ
calls_text functions cs = flat_map (call_text functions) cs

-- the calls that are told, the innermost first, and how many more there are
abbrev pub told_calls : ℕ
told_calls = 16

abbrev pub untold_text : ℕ → List ℕ
untold_text n = codes ", and " ++ (decimal n ++ codes " calls more")

abbrev pub more_text : ℕ → List ℕ
more_text n = if nat_lt told_calls n then untold_text (n - told_calls) else []

-- in NAME, and the calls, on a line
abbrev pub stack_text : List (Named FunctionData) → List Site → List ℕ → List ℕ
stack_text functions calls name =
    codes "in " ++ (name ++ (calls_text functions (take told_calls calls) ++ (more_text (length calls) ++ codes "\n")))

-- nothing where there is no such function
abbrev pub stack_line : List (Named FunctionData) → List Site → Option (Named FunctionData) → List ℕ
stack_line functions calls None = []
stack_line functions calls (Some f) = stack_text functions calls f.name

abbrev pub stack_of : List (Named FunctionData) → List Site → ℕ → List ℕ
stack_of functions calls number = stack_line functions calls (slice_get functions number)

-- The lines of a fault.
abbrev pub fault_text : List ℕ → Program FunctionData → Fault → List ℕ
fault_text path p f =
    cause_line path p.globals p.functions f.at f.cause
    ++ (line_at f.at.place (slice_get p.functions f.at.function) ++ stack_of p.functions f.calls f.at.function)
