-- What `native` comes to, on the bytes of its file: what it put or printed, and what it answers.
use Rattle.std.specs.Prelude.{◌≡◌, ◌⊎◌, ℕ, List, Option, Some, None, option_copied}
use Rattle.std.specs.declared.io.traits.Write as writing
use Rattle.cfarm_command_line_tasks.specs.declared.task.NativeOptions.{NativeOptions}
use Rattle.cfarm_files.specs.Placing.{KeepsFolder, MayPlace, Places}
use Rattle.cfarm_files.specs.Using.{UsesNone}
use Rattle.cfarm_files.specs.declared.fault.FileFault.{FileFault}
use Rattle.cfarm_files.specs.declared.fault.FileFault.TheVariants.{Refused}
use Rattle.cfarm_files.specs.declared.files.Files as filing
use Rattle.cfarm_files.specs.declared.reason.Reason.TheVariants.{Unsaid}
use Rattle.cfarm_native.specs.Told.{HasWritten, IsTextOfBytes, IsUnmade, Printed, Texts}
use Rattle.cfarm_output.specs.Errors.{ErrorsHeld}
use Rattle.cfarm_output.specs.declared.errors.ErrorLines as lines
use Rattle.cfarm_own_files.specs.Kept.{IsKept, IsNotKept}
use Rattle.cfarm_program_native.specs.Chosen.{file_of, text_asked}
use Rattle.cfarm_program_status.specs.Reading.{Coming, Says, unread}
use Rattle.cfarm_program_status.specs.Telling.{Answer, IsToldAs, no_memory, quiet, told}
use Rattle.cfarm_program_status.specs.Trace.{Changed, Trace}
use Rattle.cfarm_run.specs.ExecLines.{exec_line}
use Rattle.cfarm_run.specs.ExecStatuses as exec
use Rattle.cfarm_run.specs.ExecTold.{IsExecFault}
use Rattle.cfarm_run.specs.declared.exec_error.ExecError.{ExecError}

abbrev pub native_fault : ExecError → Answer
native_fault fault = told (exec.status_of fault) (exec_line fault)

-- such a text of the bytes is printed, or why not is told
abbrev pub IsPrinted : Texts → List ℕ → Coming
IsPrinted text bytes answer before after =
    (HasWritten bytes text before after × (answer ≡ quiet))
    ⊎ ((fault : ExecError) × IsExecFault bytes fault × Printed bytes text fault before after × (answer ≡ native_fault fault))

-- Over files as they were found and as they are left.
module _ {F D L : Type 0} (over : filing.Ghosts F D L) (files : Changed F) where
  -- nothing is put
  abbrev pub Keeps : Type 0
  Keeps = KeepsFolder (over.placed files.entry.now) (over.placed files.exit.now)

  -- the file that is read, or one of a build's, is kept; or there was no memory to find out
  abbrev pub TellsKept : (path target : List ℕ) → Answer → Type 0
  TellsKept path target answer =
      (IsKept over files.entry.now path target × (answer ≡ unread target (Refused Unsaid))) ⊎ (answer ≡ no_memory)

  -- there is no text, and why is told
  abbrev pub TellsUnmade : List ℕ → Answer → Type 0
  TellsUnmade bytes answer = (fault : ExecError) × IsUnmade bytes fault × (answer ≡ native_fault fault)

  -- this text is put at this path
  abbrev pub HasPut : (target text : List ℕ) → Answer → Type 0
  HasPut target text answer = Places (over.placed files.entry.now) (over.placed files.exit.now) target text × (answer ≡ quiet)

  -- it is refused there, and the old file or the new one stands
  abbrev pub IsUnput : (target text : List ℕ) → Answer → Type 0
  IsUnput target text answer =
      MayPlace (over.placed files.entry.now) (over.placed files.exit.now) target text
      × ((fault : FileFault) × (answer ≡ unread target fault))

  -- the one or the other
  abbrev pub MayPut : (target text : List ℕ) → Answer → Type 0
  MayPut target text answer = HasPut target text answer ⊎ IsUnput target text answer

  -- the text of the bytes is put at this path, or refused there
  abbrev pub PutsText : Texts → (target bytes : List ℕ) → Answer → Type 0
  PutsText text target bytes answer =
      (made : List ℕ) × IsTextOfBytes bytes text made × MayPut target made answer

  -- or there is none
  abbrev pub PutsApart : Texts → (target bytes : List ℕ) → Answer → Type 0
  PutsApart text target bytes answer = (TellsUnmade bytes answer × Keeps) ⊎ PutsText text target bytes answer

  -- the file of the first path is read: the other path may not be used, or the text is put there
  abbrev pub Puts : Texts → (path target bytes : List ℕ) → Answer → Type 0
  Puts text path target bytes answer =
      (TellsKept path target answer × Keeps) ⊎ (IsNotKept over files.entry.now path target × PutsApart text target bytes answer)

  -- where the text goes into a file, that is put and nothing printed; else it is printed and nothing put
  abbrev pub Goes : Option (List ℕ) → Texts → (path bytes : List ℕ) → Coming
  Goes None text path bytes answer before after = Keeps × IsPrinted text bytes answer before after
  Goes (Some target) text path bytes answer before after = Puts text path target bytes answer × (after ≡ before)

  -- `native`, which opens no disk
  abbrev pub Nativing : NativeOptions → (path bytes : List ℕ) → Coming
  Nativing options path bytes answer before after =
      UsesNone (over.used files.entry.now) (over.used files.exit.now)
      × Goes (file_of (option_copied options.output)) (text_asked options.written (option_copied options.prefix)) path bytes
      answer before after

-- a call that prints nothing came to such an answer, which is told
abbrev pub IsAnswered : {E : Type 0} → (E → ErrorsHeld) → (Answer → Type 0) → ℕ → Changed E → Type 0
IsAnswered errors Comes status err = (answer : Answer) × Comes answer × IsToldAs answer status (errors err.entry.now) (errors err.exit.now)

-- it came to that, which is told
abbrev pub Natives : {F D L W E : Type 0} → filing.Ghosts F D L → writing.Ghosts W → lines.Ghosts E → NativeOptions → (path bytes : List ℕ) → Trace F W E → Type 0
Natives over output errors options path bytes t = Says output.contents errors.contents (Nativing over t.files options path bytes) t.shows
