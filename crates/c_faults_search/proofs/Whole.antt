-- A run from main on.
use Rattle.std.proofs.Common.{◌≡◌, ℕ, List, [], Option, map, refl, sym, ap, ◌∙◌}
use Rattle.std.specs.Prelude.{slice_get}
use Rattle.std.specs.Option.{option_or}
use Rattle.c_program.specs.declared.function.Function.{Function}
use Rattle.c_program.specs.Views.{function_tree}
use Rattle.c_program.specs.Meaning.{Outcome, begins, enters, level, start}
use Rattle.c_checker_rules.specs.Checked.{Contents, program_tree}
use Rattle.c_faults.specs.declared.fault.Fault.{Fault}
use Rattle.c_faults.specs.Changes.{main_gap, malformed}
use Rattle.c_faults.specs.Frames.{Frame, told, Places, places_in}
use Rattle.c_faults.specs.Faults.{body_fault, blames, fault_of}
use Rattle.c_faults_step.specs.declared.step.Step.TheVariants.{Goes}
use Rattle.c_faults_step.specs.declared.tracer.Tracer.{Tracer}
use Rattle.c_faults_step.specs.Steps.{goes_wrong}
use Rattle.c_faults_run.specs.Calls.{BlamesBody, BlamesNone, Enters}
use Rattle.c_faults_search.specs.Starts.{StartsMain}

-- a program of these parts without a main that takes no arguments
pub no_main : (p parts : Contents) (places : Places) (n : ℕ) → parts ≡ p → BlamesNone parts.functions parts.main 0 →
    told (record { function = parts.main; callers = [] }) (malformed 0) ≡ fault_of places (program_tree p) n
no_main p parts places n same blamed =
    let fs = map function_tree parts.functions in
    let lower = level fs n in
    let at : Frame = record { function = parts.main; callers = [] } in
    sym
    (ap (λ (x : Option Fault). option_or x (told at (main_gap 0 (enters lower (slice_get fs parts.main) [] (start parts.globals)))))
    (blamed places lower (blames places fs n) [] [] (start parts.globals) refl))
    ∙ ap (λ (q : Contents). fault_of places (program_tree q) n) same

-- one whose main is this
pub main_runs : (p parts : Contents) (f : Function) (places : Places) (n : ℕ) (t : Tracer) → parts ≡ p → BlamesBody parts.functions parts.main 0 f →
    Enters parts.functions parts.main 0 f → StartsMain parts.globals parts.functions parts.main f places n t →
    goes_wrong Goes t [] ≡ fault_of places (program_tree p) n
main_runs p parts f places n t same blamed entered started =
    let fs = map function_tree parts.functions in
    let lower = level fs n in
    let blame = blames places fs n in
    let at : Frame = record { function = parts.main; callers = [] } in
    let begun = begins (function_tree f) [] (start parts.globals) in
    started
    ∙ sym
    (ap (λ (x : Option Fault). option_or x (told at (main_gap 0 (enters lower (slice_get fs parts.main) [] (start parts.globals)))))
    (blamed places lower blame [] [] (start parts.globals) refl)
    ∙ ap (λ (o : Outcome). option_or (body_fault at lower blame (places_in places parts.main) (function_tree f) begun) (told at (main_gap 0 o)))
    (entered lower [] (start parts.globals) refl))
    ∙ ap (λ (q : Contents). fault_of places (program_tree q) n) same
