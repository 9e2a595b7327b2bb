-- A caller goes on where its words get the result.
use Rattle.std.proofs.Common.{◌≡◌, ℕ, map, Option, Some, sym, ap, ◌∙◌}
use Rattle.locations.specs.declared.location.Location.{Location}
use Rattle.machine.specs.Data.{Data}
use Rattle.machine.specs.Frames.{State, after_call, with_result}
use Rattle.linear_faults_run.specs.declared.callers.Caller.{Caller}
use Rattle.linear_faults_run.specs.declared.run.Run.{Run}
use Rattle.linear_faults_run.specs.declared.words.Words.{Words}
use Rattle.linear_faults_run.specs.Standing.{frame_of, Puts}
use Rattle.linear_faults_run.specs.Returns.{Resumes}

pub resumes : (before : Run) (caller : Caller) (given : Option ℕ) (location : Location) (lost words : Words) → caller.target ≡ Some location
    → lost.registers.items ≡ after_call caller.words.registers.items → lost.slots ≡ caller.words.slots → Puts lost location given words
    → Resumes before caller given (record { function = caller.function; place = caller.place; words = words; globals = before.globals; callers = before.callers })
resumes before caller given location lost words to registers slots puts = λ output.
    let stands : Data → State = λ d. record { function = caller.function; place = caller.place; here = d; callers = map frame_of before.callers } in
    let globals = before.globals.items in
    ap (λ t. stands (with_result t given (record { registers = after_call caller.words.registers.items; slots = caller.words.slots.items; globals = globals; output = output }))) to
    ∙ (λ i. stands (with_result (Some location) given (record { registers = sym registers i; slots = (sym slots i).items; globals = globals; output = output })))
    ∙ ap stands (puts globals output)
