-- What each command comes to, on the bytes of its file: what it wrote, and what it answers.
use Rattle.std.specs.Prelude.{◌≡◌, ◌⊎◌, ℕ, ℤ, List, Option, None, Some}
use Rattle.lang_base.specs.declared.shown.Shown.{Shown}
use Rattle.c_hints.specs.Hints.{IsHint}
use Rattle.c_hints_words.specs.Standing.{IsDeclaredAt}
use Rattle.c_texts.specs.Refusals.{number_of, offset_of}
use Rattle.c_texts.specs.declared.error.TextError.{TextError}
use Rattle.cfarm_hints.specs.Faults.{IsHintOfFault}
use Rattle.cfarm_run.specs.declared.command_error.CommandError.{CommandError}
use Rattle.cfarm_run.specs.declared.command_error.CommandError.TheVariants.{Run, Text}
use Rattle.cfarm_run.specs.Closings.{closing_line}
use Rattle.cfarm_run.specs.TextLines.{error_line, gcc_line}
use Rattle.cfarm_run.specs.TextStatuses.{status_of_error, status_of_shown, status_where}
use Rattle.cfarm_run.specs.TextTold as text
use Rattle.cfarm_run.specs.declared.exec_error.ExecError.{ExecError}
use Rattle.cfarm_settle.specs.declared.settle_error.SettleError.{SettleError}
use Rattle.cfarm_run.specs.ExecStatuses as exec_status
use Rattle.cfarm_run.specs.ExecTold as exec
use Rattle.cfarm_run.specs.ExecLines.{exec_line}
use Rattle.cfarm_settle.specs.SettleLines.{settle_line}
use Rattle.cfarm_settle.specs.LaidOut.{Seats}
use Rattle.cfarm_settle.specs.Settled.{HaveSettled}
use Rattle.cfarm_settle.specs.Settled as settled
use Rattle.cfarm_settle.specs.SettleStatuses as settle_status
use Rattle.cfarm_sim.specs.declared.error.ScheduleError.{ScheduleError}
use Rattle.cfarm_sim.specs.Lines as schedule
use Rattle.cfarm_sim.specs.Plays.{IsShown, IsStopped}
use Rattle.cfarm_sim_svg.specs.Drawn.{IsDrawn, IsUndrawn}
use Rattle.cfarm_command_line_tasks.specs.declared.task.Format.{Format}
use Rattle.cfarm_command_line_tasks.specs.declared.task.Format.TheVariants.{Plain, Gcc, Json}
use Rattle.cfarm_command_line_tasks.specs.declared.task.Showing.{Showing}
use Rattle.cfarm_command_line_tasks.specs.declared.task.Showing.TheVariants.{Lines, Drawing}
use Rattle.cfarm_program_status.specs.Telling.{Answer, no_memory, quiet, told}
use Rattle.cfarm_program_runs.specs.Objects.{fault_line}
use Rattle.cfarm_program_runs.specs.declared.objects.Refusal.{Refusal}

-- the answer after a run, and after each command that is not done
abbrev pub closed : Shown → Answer
closed shown = told (status_of_shown shown) (closing_line shown)

-- after a run that is to end with a result, where one is given
abbrev pub closed_where : Option ℤ → Shown → Answer
closed_where expected shown = told (status_where shown expected) (closing_line shown)

abbrev pub text_fault : CommandError → Answer
text_fault fault = told (status_of_error fault) (error_line fault)

-- the fault of a text and the offset that it is about, where there is one
abbrev pub offset_beside : TextError → Option ℕ → Option (TextError × ℕ)
offset_beside fault None = None
offset_beside fault (Some at) = Some (fault, at)

abbrev pub placed_fault : CommandError → Option (TextError × ℕ)
placed_fault (Text fault) = offset_beside fault (offset_of fault)
placed_fault (Run fault) = None

-- what is told is of this fault of the text of this file, with a hint of its number and where its name is declared before
abbrev pub IsRefusalOf : (path bytes : List ℕ) → TextError → ℕ → Refusal → Type 0
IsRefusalOf path bytes fault at refusal = (refusal.path.now ≡ path) × (refusal.text.now ≡ bytes) × (refusal.fault ≡ fault) × (refusal.at ≡ at)
    × IsHint bytes at (number_of fault) refusal.hint.now × IsDeclaredAt bytes at refusal.declared

-- it as an object of JSON
abbrev pub IsObject : (path bytes : List ℕ) → TextError × ℕ → List ℕ → Type 0
IsObject path bytes (fault, at) line = (refusal : Refusal) × IsRefusalOf path bytes fault at refusal × (line ≡ fault_line refusal)

-- the line as an object, or as ever where the fault has no place
abbrev pub IsObjectLine : (path bytes : List ℕ) → CommandError → Option (TextError × ℕ) → List ℕ → Type 0
IsObjectLine path bytes fault None line = line ≡ error_line fault
IsObjectLine path bytes fault (Some placed) line = IsObject path bytes placed line

-- of the text of the file of this path, in this form: for compilers with a hint of the fault, as an object where there is memory for it
abbrev pub IsCheckedFault : Format → (path bytes : List ℕ) → CommandError → Answer → Type 0
IsCheckedFault Plain path bytes fault answer = answer ≡ text_fault fault
IsCheckedFault Gcc path bytes fault answer = (hint : List ℕ) × IsHintOfFault bytes fault hint
    × (answer ≡ told (status_of_error fault) (gcc_line path bytes fault hint))
IsCheckedFault Json path bytes fault answer = (answer ≡ no_memory)
    ⊎ ((line : List ℕ) × IsObjectLine path bytes fault (placed_fault fault) line × (answer ≡ told (status_of_error fault) line))

abbrev pub exec_fault : ExecError → Answer
exec_fault fault = told (exec_status.status_of fault) (exec_line fault)

abbrev pub settle_fault : SettleError → Answer
settle_fault fault = told (settle_status.status_of fault) (settle_line fault)

abbrev pub schedule_fault : ScheduleError → Answer
schedule_fault fault = told (schedule.status_of fault) (schedule.schedule_line fault)

-- `check`: an accepted text's counts are printed, or its first fault is told in this form
abbrev pub Checked : Format → (path bytes : List ℕ) → Answer → Option (List ℕ) → Option (List ℕ) → Type 0
Checked format path bytes answer before after =
    (text.HasCounted bytes before after × (answer ≡ quiet))
    ⊎ ((fault : CommandError) × text.IsTextFault bytes fault × text.Printed bytes fault before after × IsCheckedFault format path bytes fault answer)

-- `interpret`: what an accepted text's program does at the bound is written and told, or its first fault is
abbrev pub Interpreted : List ℕ → ℕ → Answer → Option (List ℕ) → Option (List ℕ) → Type 0
Interpreted bytes depth answer before after =
    ((shown : Shown) × text.HasRun bytes depth shown before after × (answer ≡ closed shown))
    ⊎ ((fault : CommandError) × text.IsTextFault bytes fault × text.Ran bytes depth fault before after × (answer ≡ text_fault fault))

-- `exec`: what the program of Linear that the bytes spell does within the bound is written and told, or why there is none
abbrev pub Executed : List ℕ → ℕ → Option ℤ → Answer → Option (List ℕ) → Option (List ℕ) → Type 0
Executed bytes limit expected answer before after =
    ((shown : Shown) × exec.HasRun bytes limit shown before after × (answer ≡ closed_where expected shown))
    ⊎ ((fault : ExecError) × exec.IsExecFault bytes fault × exec.Ran bytes limit fault before after × (answer ≡ exec_fault fault))

-- `settle`: what the nodes of three seats have agreed on is printed, or why the bytes are refused is told. The seats end with the
-- program, so here there are some; which they are is said of the command.
abbrev pub Settled : List ℕ → Answer → Option (List ℕ) → Option (List ℕ) → Type 0
Settled bytes answer before after =
    ((seats : Seats) × HaveSettled bytes seats before after × (answer ≡ quiet))
    ⊎ ((fault : SettleError) × settled.IsRefused bytes fault before after × (answer ≡ settle_fault fault))

-- what the lines of a schedule show is printed, or the first line that is none is told
abbrev pub Lined : List ℕ → Answer → Option (List ℕ) → Option (List ℕ) → Type 0
Lined bytes answer before after =
    (IsShown bytes before after × (answer ≡ quiet))
    ⊎ ((fault : ScheduleError) × IsStopped bytes fault before after × (answer ≡ schedule_fault fault))

-- a drawing of it is printed, or the first line that is none is told, and then nothing is drawn
abbrev pub Drawn : List ℕ → Answer → Option (List ℕ) → Option (List ℕ) → Type 0
Drawn bytes answer before after =
    (IsDrawn bytes before after × (answer ≡ quiet))
    ⊎ ((fault : ScheduleError) × IsUndrawn bytes fault before after × (answer ≡ schedule_fault fault))

-- `sim`: a schedule is shown as is asked for
abbrev pub Simulated : Showing → List ℕ → Answer → Option (List ℕ) → Option (List ℕ) → Type 0
Simulated Lines bytes answer before after = Lined bytes answer before after
Simulated Drawing bytes answer before after = Drawn bytes answer before after
