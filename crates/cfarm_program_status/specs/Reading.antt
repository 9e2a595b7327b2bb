-- What is answered where a task reads a file.
use Rattle.std.specs.Prelude.{◌≡◌, ℕ, List, Option, Result, Ok, Err}
use Rattle.cfarm_files.specs.Reading.{IsKnownAs}
use Rattle.cfarm_files.specs.Reasons.{file_line}
use Rattle.cfarm_files.specs.declared.fault.FileFault.{FileFault}
use Rattle.cfarm_files.specs.declared.fault.FileFault.TheVariants.{NoMemory, Refused}
use Rattle.cfarm_output.specs.Errors.{ErrorsHeld}
use Rattle.cfarm_program_status.specs.Telling.{Answer, IsToldAs, no_memory, told}
use Rattle.cfarm_program_status.specs.Trace.{Shown}

-- the answer where a file is not read
abbrev pub unread : List ℕ → FileFault → Answer
unread path NoMemory = no_memory
unread path (Refused reason) = told 2 (file_line path reason)

-- what a task comes to: what it answers, and what the output held and holds
abbrev pub Coming : Type 1
Coming = Answer → Option (List ℕ) → Option (List ℕ) → Type 0

-- it came to this, which is told
abbrev pub Says : {W E : Type 0} → (W → Option (List ℕ)) → (E → ErrorsHeld) → Coming → Shown W E → Type 0
Says contents errors Comes s = (answer : Answer) × Comes answer (contents s.out.entry.now.taker) (contents s.out.exit.now.taker)
    × IsToldAs answer s.status (errors s.err.entry.now) (errors s.err.exit.now)

-- a file that was read, or was not, and then nothing is printed
abbrev pub OnRead : List ℕ → (List ℕ → Coming) → Result (List ℕ) FileFault → Coming
OnRead path Comes (Ok bytes) answer before after = Comes bytes answer before after
OnRead path Comes (Err fault) answer before after = (after ≡ before) × (answer ≡ unread path fault)

-- the file of a path is read as it is known to be, and so it comes
abbrev pub OnFile : (List ℕ → Option (Result (List ℕ) FileFault)) → List ℕ → (List ℕ → Coming) → Coming
OnFile known path Comes answer before after =
    (read : Result (List ℕ) FileFault) × IsKnownAs (known path) read × OnRead path Comes read answer before after
