-- From one bound to the next the output of a program only grows, and an end or a fault stays.
use Rattle.std.proofs.Common.{ℕ, List, [], ◌∷◌, Option, Some, None, Bool, true, false, cond, length, sym}
use Rattle.std.specs.Prelude.{slice_get, ◌==◌, map}
use Rattle.lang_base.specs.Behaviour.{IsRun}
use Rattle.lang_base.specs.Machine.{Goes, Fails, Grows}
use Rattle.lang_base.specs.declared.program.Named.{Named}
use Rattle.lang_base.specs.declared.program.Program.{Program}
use Rattle.lang_base.proofs.Beginnings.{IsBeginningOf-refl, IsBeginningOf-same}
use Rattle.lang_helpers.proofs.Growth.{PrintsOn, prints_grow}
use Rattle.lang_base.proofs.Simulation.{shows_is_run}
use Rattle.rtl_acts.specs.Data.{Data, value_at}
use Rattle.rtl_acts.specs.Acts.{does, holds}
use Rattle.rtl_acts.proofs.Outputs.{PrintsAtLeast, does_prints, output-with_result}
use Rattle.rtl_language.specs.declared.instruction.Instruction.{Instruction}
use Rattle.rtl_language.specs.declared.instruction.Instruction.TheVariants.{Do, Call, Branch, Return}
use Rattle.rtl_language.specs.Function.{FunctionData}
use Rattle.rtl_language.specs.Frames.{Frame, State, printed, goes_to, returned, restored, comes_back}
use Rattle.rtl_language.specs.Meaning.{branches, waiting, begun, calls, instruction_step, function_step, next, start, run}

goes_prints : (s : State) (place : ℕ) (before : List ℕ) (d : Option Data) → PrintsAtLeast before d → PrintsOn printed before (goes_to s place d)
goes_prints s place before None h = tt
goes_prints s place before (Some d) h = h

branch_prints : (s : State) (taken other : ℕ) (o : Option Bool) → PrintsOn printed (printed s) (branches s taken other o)
branch_prints s taken other None = tt
branch_prints s taken other (Some answer) = IsBeginningOf-refl (printed s)

call_prints : (s : State) (number : ℕ) (arguments : List (Option ℕ)) (caller : Frame) (callee : Option (Named FunctionData)) → PrintsOn printed (printed s) (calls s number arguments caller callee)
call_prints s number arguments caller None = tt
call_prints s number arguments caller (Some callee) =
    let at : (b : Bool) → PrintsOn printed (printed s) (cond b (Goes (begun s number callee.function arguments caller)) Fails) = λ b. elim b as (λ b. PrintsOn printed (printed s) (cond b (Goes (begun s number callee.function arguments caller)) Fails)) [ true ↦ IsBeginningOf-refl (printed s) | false ↦ tt ] in
    at (length arguments == length callee.function.parameters)

return_prints : (callers : List Frame) (d : Data) (value : Option (Option ℕ)) → PrintsOn printed d.output (comes_back callers d value)
return_prints callers d None = tt
return_prints [] d (Some None) = tt
return_prints [] d (Some (Some w)) = tt
return_prints (frame ∷ callers) d (Some value) = IsBeginningOf-same _ _ (sym (output-with_result frame.target value (restored frame d)))

instruction_prints : (functions : List (Named FunctionData)) (s : State) (i : Option Instruction) → PrintsOn printed (printed s) (instruction_step functions s i)
instruction_prints functions s None = tt
instruction_prints functions s (Some (Do act successor)) = goes_prints s successor (printed s) (does act s.here) (does_prints act s.here)
instruction_prints functions s (Some (Call function arguments target successor)) =
    call_prints s function (map (λ a. value_at a s.here) arguments) (waiting s target successor) (slice_get functions function)
instruction_prints functions s (Some (Branch test taken other)) = branch_prints s taken other (holds test s.here)
instruction_prints functions s (Some (Return value)) = return_prints s.callers s.here (returned value s.here)

function_prints : (functions : List (Named FunctionData)) (s : State) (f : Option (Named FunctionData)) → PrintsOn printed (printed s) (function_step functions s f)
function_prints functions s None = tt
function_prints functions s (Some f) = instruction_prints functions s (slice_get f.function.nodes s.place)

-- each step's output begins with what was printed before it
pub grows : (functions : List (Named FunctionData)) → Grows (next functions) printed
grows functions = prints_grow printed (next functions) (λ s. function_prints functions s (slice_get functions s.function))

pub runs_on : (p : Program FunctionData) → IsRun (run p)
runs_on p = shows_is_run (next p.functions) printed (grows p.functions) (start p)
