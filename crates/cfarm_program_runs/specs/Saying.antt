-- What a command comes to, and how that is told.
use Rattle.std.specs.Prelude.{◌≡◌, ◌⊎◌, ℕ, Bool, true, false, List, [], ◌∷◌, ◌++◌, Option, Some, codes}
use Rattle.lang_base.specs.declared.shown.Shown.{Shown as Closed}
use Rattle.lang_base.specs.declared.shown.Shown.TheVariants.{Wrong}
use Rattle.lang_base.specs.declared.program.Program.{Program}
use Rattle.linear_language.specs.Function.{FunctionData}
use Rattle.cfarm_run.specs.Closings.{closing_line}
use Rattle.cfarm_run.specs.ExecTold.{IsSpelled}
use Rattle.cfarm_run.specs.declared.command_error.CommandError.{CommandError}
use Rattle.cfarm_command_line_tasks.specs.declared.task.Explaining.{Explaining}
use Rattle.cfarm_command_line_tasks.specs.declared.task.Format.{Format}
use Rattle.cfarm_command_line_tasks.specs.declared.task.Format.TheVariants.{Gcc, Json}
use Rattle.cfarm_command_line_tasks.specs.declared.task.Task.TheVariants.{Check, Interpret}
use Rattle.cfarm_explain.specs.Bounds.{depth_text, limit_text}
use Rattle.cfarm_explain.specs.Explained as run
use Rattle.cfarm_explain_linked.specs.Explained as linked
use Rattle.cfarm_output.specs.Errors.{ErrorsHeld, Tells}
use Rattle.cfarm_program_status.specs.Reading.{Coming}
use Rattle.cfarm_program_status.specs.Telling.{Answer, IsExplained}
use Rattle.cfarm_program_status.specs.Trace.{Shown}
use Rattle.cfarm_program_runs.specs.Explained.{is_asked, is_explained}
use Rattle.cfarm_program_runs.specs.Outcomes.{Checked, Interpreted, IsCheckedFault}

-- a fault of the text of the file of this path is told in the form that is asked for, and explained where a user sees it in that form
abbrev pub IsFaultTold : Bool → Format → (path bytes : List ℕ) → CommandError → ℕ → ErrorsHeld → ErrorsHeld → Type 0
IsFaultTold is_seen format path bytes fault status before after =
    (answer : Answer) × IsCheckedFault format path bytes fault answer × IsExplained (is_explained is_seen (Check format)) answer status before after

-- the same in the form of compilers, which is explained to nobody
abbrev pub IsPlacedTold : (path bytes : List ℕ) → CommandError → ℕ → ErrorsHeld → ErrorsHeld → Type 0
IsPlacedTold path bytes fault = IsFaultTold false Gcc path bytes fault

-- the same as an object of JSON
abbrev pub IsObjectTold : (path bytes : List ℕ) → CommandError → ℕ → ErrorsHeld → ErrorsHeld → Type 0
IsObjectTold path bytes fault = IsFaultTold false Json path bytes fault

module _ {W E : Type 0} (contents : W → Option (List ℕ)) (errors : E → ErrorsHeld) (is_seen : Bool) where
  -- it came to this, which is told, and explained where a user sees it
  abbrev pub Explains : Coming → Shown W E → Type 0
  Explains Comes s = (answer : Answer) × Comes answer (contents s.out.entry.now.taker) (contents s.out.exit.now.taker)
      × IsExplained is_seen answer s.status (errors s.err.entry.now) (errors s.err.exit.now)

-- the same of `check` of the text of the file of this path, where it is explained in the form alone that is for a user
abbrev pub Checks : {W E : Type 0} → (W → Option (List ℕ)) → (E → ErrorsHeld) → Bool → Format → (path bytes : List ℕ) → Shown W E → Type 0
Checks contents errors is_seen format path bytes = Explains contents errors (is_explained is_seen (Check format)) (Checked format path bytes)

-- the same of `interpret`
abbrev pub Interprets : {W E : Type 0} → (W → Option (List ℕ)) → (E → ErrorsHeld) → Bool → Explaining → (bytes : List ℕ) → ℕ → Shown W E → Type 0
Interprets contents errors is_seen explaining bytes depth =
    Explains contents errors (is_explained is_seen (Interpret depth explaining)) (Interpreted bytes depth)

-- why the run of this text went wrong, where and in which calls; or nothing, where memory was refused
abbrev pub IsCause : (path bytes : List ℕ) → ℕ → List ℕ → Type 0
IsCause path bytes depth behind = (behind ≡ []) ⊎ run.IsExplained path bytes depth (Some behind)

-- behind the line of a run that went wrong stands its cause, where that is explained
abbrev pub IsBehindWrong : Bool → (path bytes : List ℕ) → ℕ → List ℕ → Type 0
IsBehindWrong true path bytes depth behind = IsCause path bytes depth behind
IsBehindWrong false path bytes depth behind = behind ≡ []

-- with the status of a run that went wrong, it is told that it did, with what stands behind that
abbrev pub IsWrongTold : Bool → (path bytes : List ℕ) → ℕ → ℕ → ErrorsHeld → ErrorsHeld → Type 0
IsWrongTold is_explained path bytes depth status before after = status ≡ 5 →
    (front : List ℕ) × (behind : List ℕ) × IsBehindWrong is_explained path bytes depth behind
    × Tells before after (front ++ (codes "wrong" ++ 10 ∷ behind))

-- the same of `interpret`
abbrev pub CausesOf : Bool → Explaining → (path bytes : List ℕ) → ℕ → ℕ → ErrorsHeld → ErrorsHeld → Type 0
CausesOf is_seen explaining path bytes depth = IsWrongTold (is_explained is_seen (Interpret depth explaining)) path bytes depth

-- the bytes spell a program, and this is told of its run of so many instructions
abbrev pub IsLinkedFault : (path bytes : List ℕ) → ℕ → List ℕ → Type 0
IsLinkedFault path bytes limit text = (p : Program FunctionData) × IsSpelled bytes p × (linked.told_of path p limit ≡ Some text)

-- why the run of this linked program went wrong, where and in which calls; or nothing, where memory was refused
abbrev pub IsLinkedCause : (path bytes : List ℕ) → ℕ → List ℕ → Type 0
IsLinkedCause path bytes limit behind = (behind ≡ []) ⊎ IsLinkedFault path bytes limit behind

-- behind the line of a run of a linked program that went wrong stands its cause, where that is explained
abbrev pub IsBehindLinked : Bool → (path bytes : List ℕ) → ℕ → List ℕ → Type 0
IsBehindLinked true path bytes limit behind = IsLinkedCause path bytes limit behind
IsBehindLinked false path bytes limit behind = behind ≡ []

-- with the status of a run that went wrong, or did not end as was expected, it is told how it closed; where it went wrong, with its cause
abbrev pub IsLinkedTold : Bool → (path bytes : List ℕ) → ℕ → ℕ → ErrorsHeld → ErrorsHeld → Type 0
IsLinkedTold is_explained path bytes limit status before after = status ≡ 5 →
    (closed : Closed) × (front : List ℕ) × (behind : List ℕ) × (closed ≡ Wrong → IsBehindLinked is_explained path bytes limit behind)
    × Tells before after (front ++ (closing_line closed ++ 10 ∷ behind))

-- the same of `exec`
abbrev pub LinkedCausesOf : Bool → Explaining → (path bytes : List ℕ) → ℕ → ℕ → ErrorsHeld → ErrorsHeld → Type 0
LinkedCausesOf is_seen explaining path bytes limit = IsLinkedTold (is_asked is_seen explaining) path bytes limit

-- what `exec` comes to is told, and explained where that is asked for
abbrev pub Executes : {W E : Type 0} → (W → Option (List ℕ)) → (E → ErrorsHeld) → Bool → Explaining → Coming → Shown W E → Type 0
Executes contents errors is_seen explaining Comes = Explains contents errors (is_asked is_seen explaining) Comes

-- behind the line of a run that was stopped at its bound stands this, or nothing, where memory was refused
abbrev pub IsBehindStopped : Bool → List ℕ → List ℕ → Type 0
IsBehindStopped true text behind = (behind ≡ []) ⊎ (behind ≡ text)
IsBehindStopped false text behind = behind ≡ []

-- with the status of a run that was stopped at its bound, it is told that it runs on, with what stands behind that
abbrev pub IsStoppedTold : Bool → (text : List ℕ) → ℕ → ErrorsHeld → ErrorsHeld → Type 0
IsStoppedTold is_explained text status before after = status ≡ 6 →
    (front : List ℕ) × (behind : List ℕ) × IsBehindStopped is_explained text behind
    × Tells before after (front ++ (codes "running" ++ 10 ∷ behind))

-- the same of `interpret` and of `exec`, with their bounds
abbrev pub StoppedAtDepth : Bool → Explaining → ℕ → ℕ → ErrorsHeld → ErrorsHeld → Type 0
StoppedAtDepth is_seen explaining depth = IsStoppedTold (is_asked is_seen explaining) (depth_text depth)

abbrev pub StoppedAtLimit : Bool → Explaining → ℕ → ℕ → ErrorsHeld → ErrorsHeld → Type 0
StoppedAtLimit is_seen explaining limit = IsStoppedTold (is_asked is_seen explaining) (limit_text limit)
