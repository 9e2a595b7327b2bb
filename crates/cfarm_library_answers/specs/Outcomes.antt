-- What the commands come to where nobody looks at what they tell.
use Rattle.std.specs.Prelude.{◌≡◌, ◌⊎◌, ℕ, ℤ, zero, suc, List, [], Option, None, Some, codes}
use Rattle.lang_base.specs.declared.shown.Shown.{Shown}
use Rattle.cfarm_run.specs.declared.command_error.CommandError.{CommandError}
use Rattle.cfarm_run.specs.declared.exec_error.ExecError.{ExecError}
use Rattle.cfarm_run.specs.Closings.{closing_line}
use Rattle.cfarm_run.specs.TextLines.{error_line}
use Rattle.cfarm_run.specs.TextStatuses.{status_of_error, status_of_shown, status_where}
use Rattle.cfarm_run.specs.TextTold as text
use Rattle.cfarm_run.specs.ExecLines.{exec_line}
use Rattle.cfarm_run.specs.ExecStatuses as exec_status
use Rattle.cfarm_run.specs.ExecTold as exec
use Rattle.cfarm_emit.specs.Lines as emit
use Rattle.cfarm_emit.specs.Told as emitted
use Rattle.cfarm_emit.specs.declared.error.EmitError.{EmitError}
use Rattle.cfarm_options.specs.declared.emitted.Emitted.{Emitted}
use Rattle.cfarm_options.specs.declared.emitted.Emitted.TheVariants as form
use Rattle.cfarm_sim.specs.Lines as schedule
use Rattle.cfarm_sim.specs.Plays.{IsShown, IsStopped}
use Rattle.cfarm_sim.specs.declared.error.ScheduleError.{ScheduleError}
use Rattle.cfarm_sim_svg.specs.Drawn.{IsDrawn, IsUndrawn}
use Rattle.cfarm_library_verify.specs.Lines as verify
use Rattle.cfarm_library_verify.specs.Told as verified
use Rattle.cfarm_library_verify.specs.VerifyError.{VerifyError}
use Rattle.text_files.specs.Files.{HasNotShown, HasShown}
use Rattle.text_files.specs.Lines.{show_line}
use Rattle.text_files.specs.Statuses.{status_of}
use Rattle.text_files.specs.declared.error.ShowError.{ShowError}
use Rattle.cfarm_library_answers.specs.Answered.{Coming, ended_line}

-- what an output held and holds
abbrev pub Changed : Type 1
Changed = (before after : Option (List ℕ)) → Type 0

-- this was written where there was nothing, and there is nothing to tell
abbrev pub IsDone : Changed → Coming
IsDone Holds status written told = Holds (Some []) (Some written) × (status ≡ 0) × (told ≡ [])

-- this was written where there was nothing, and this line is told with this status
abbrev pub IsTold : Changed → (ended : ℕ) (line : List ℕ) → Coming
IsTold Holds ended line status written told = Holds (Some []) (Some written) × (status ≡ ended) × (told ≡ ended_line line)

-- `check`: an accepted text's counts are written, or its first fault is told
abbrev pub Checked : List ℕ → Coming
Checked bytes status written told =
    IsDone (text.HasCounted bytes) status written told
    ⊎ ((fault : CommandError) × text.IsTextFault bytes fault
    × IsTold (text.Printed bytes fault) (status_of_error fault) (error_line fault) status written told)

-- `interpret`: what an accepted text's program does at the bound is written and told, or its first fault is
abbrev pub Interpreted : List ℕ → ℕ → Coming
Interpreted bytes depth status written told =
    ((shown : Shown) × IsTold (text.HasRun bytes depth shown) (status_of_shown shown) (closing_line shown) status written told)
    ⊎ ((fault : CommandError) × text.IsTextFault bytes fault
    × IsTold (text.Ran bytes depth fault) (status_of_error fault) (error_line fault) status written told)

-- `exec`: what the program that the bytes spell does within the bound is written and told, or why there is none
abbrev pub Executed : List ℕ → ℕ → Option ℤ → Coming
Executed bytes limit expected status written told =
    ((shown : Shown) × IsTold (exec.HasRun bytes limit shown) (status_where shown expected) (closing_line shown) status written told)
    ⊎ ((fault : ExecError) × exec.IsExecFault bytes fault
    × IsTold (exec.Ran bytes limit fault) (exec_status.status_of fault) (exec_line fault) status written told)

-- `emit`: a form of the text's program is written, or the text's fault is told
abbrev pub Formed : List ℕ → Emitted → Option ℕ → Coming
Formed bytes of seed status written told =
    IsDone (emitted.HasEmitted bytes of seed) status written told
    ⊎ ((fault : EmitError) × emitted.IsEmitFault bytes fault
    × IsTold (emitted.Printed bytes of seed fault) (emit.status_of fault) (emit.emit_line fault) status written told)

-- the form of a number, 0 to 4: Cminor, RTL, LTL, Linear, a bundle
abbrev pub form_of : ℕ → Option Emitted
form_of zero = Some form.Cminor
form_of (suc zero) = Some form.Rtl
form_of (suc (suc zero)) = Some form.Ltl
form_of (suc (suc (suc zero))) = Some form.Linear
form_of (suc (suc (suc (suc zero)))) = Some form.Bundle
form_of (suc (suc (suc (suc (suc more))))) = None

-- nothing is written
abbrev pub IsKept : Changed
IsKept before after = after ≡ before

-- where there is no such form, that is told
abbrev pub FormedWhere : Option Emitted → List ℕ → Option ℕ → Coming
FormedWhere None bytes seed = IsTold IsKept 2 (codes "form")
FormedWhere (Some of) bytes seed = Formed bytes of seed

abbrev pub FormedBy : ℕ → List ℕ → Option ℕ → Coming
FormedBy number bytes seed = FormedWhere (form_of number) bytes seed

-- `show`: the text of the program that the bytes are is written, or why there is none is told
abbrev pub Texted : List ℕ → Coming
Texted bytes status written told =
    IsDone (HasShown bytes) status written told
    ⊎ ((fault : ShowError) × IsTold (HasNotShown bytes fault) (status_of fault) (show_line fault) status written told)

-- `sim`: what the lines of a schedule show is written, or the first line that is none is told
abbrev pub Lined : List ℕ → Coming
Lined bytes status written told =
    IsDone (IsShown bytes) status written told
    ⊎ ((fault : ScheduleError) × IsTold (IsStopped bytes fault) (schedule.status_of fault) (schedule.schedule_line fault) status written told)

-- `sim --svg`: a drawing of it is written, or the first line that is none is told
abbrev pub Drawn : List ℕ → Coming
Drawn bytes status written told =
    IsDone (IsDrawn bytes) status written told
    ⊎ ((fault : ScheduleError) × IsTold (IsUndrawn bytes fault) (schedule.status_of fault) (schedule.schedule_line fault) status written told)

-- how it is told that a program is not verified, where its file and the bundle's are called so
abbrev pub verify_line : VerifyError → List ℕ
verify_line fault = verify.verify_line fault (codes "program") (codes "bundle")

-- `verify`: the program is verified by the bundle, or the first reason why it is not is told
abbrev pub Proven : (bytes program bundle : List ℕ) → Coming
Proven bytes program bundle status written told =
    IsDone (verified.HasVerified bytes program bundle) status written told
    ⊎ ((fault : VerifyError) × verified.IsUnverified bytes program bundle fault
    × IsTold (verified.Printed bytes program bundle fault) (verify.status_of fault) (verify_line fault) status written told)

-- `--version`: the program's name and version
abbrev pub version_text : List ℕ
version_text = codes "cfarm 1.0.0\nlogic dac8208d650f15bf\n"

abbrev pub Versioned : Coming
Versioned status written told = (written ≡ version_text) × (status ≡ 0) × (told ≡ [])
