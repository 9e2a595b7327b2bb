-- The start of a run.
use Rattle.std.specs.Prelude.{◌≡◌, ℕ, List, [], Option, map, slice_index_or}
use Rattle.std.specs.Option.{option_or}
use Rattle.c_program.specs.declared.function.Function.{Function}
use Rattle.c_program.specs.declared.function.GlobalVariable.{GlobalVariable}
use Rattle.c_program.specs.Views.{function_tree}
use Rattle.c_program.specs.Meaning.{begins, ends, exec_all, level, start}
use Rattle.c_faults.specs.Changes.{main_gap}
use Rattle.c_faults.specs.Frames.{Frame, told}
use Rattle.c_faults.specs.Faults.{body_fault, blames}
use Rattle.c_faults_step.specs.declared.step.Step.TheVariants.{Goes}
use Rattle.c_faults_step.specs.declared.tracer.Tracer.{Tracer}
use Rattle.c_faults_step.specs.Steps.{goes_wrong}

-- The run goes wrong where main does, or where it comes to no word.
abbrev pub StartsMain : List GlobalVariable → List Function → ℕ → Function → List (List ℕ) → ℕ → Tracer → Type 0
StartsMain globals functions number main places bound t =
    let lower = level (map function_tree functions) bound in
    let blame = blames places (map function_tree functions) bound in
    let f : Frame = record { function = number; callers = [] } in
    let s = begins (function_tree main) [] (start globals) in
    goes_wrong Goes t [] ≡
    option_or (body_fault f lower blame (slice_index_or places number []) (function_tree main) s)
    (told f (main_gap 0 (ends main.ending (exec_all lower (function_tree main).body s))))
