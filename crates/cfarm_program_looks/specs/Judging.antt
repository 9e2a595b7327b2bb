-- What `judge` comes to, on the bytes of its file: what it wrote, and what it answers.
use Rattle.std.specs.Prelude.{◌≡◌, ◌⊎◌, ℕ, List, Option, Result}
use Rattle.cfarm_files.specs.declared.fault.FileFault.{FileFault}
use Rattle.cfarm_judge.specs.Lines as judge
use Rattle.cfarm_judge.specs.Told.{HasJudged, IsUnjudged, Printed}
use Rattle.cfarm_judge.specs.declared.error.JudgeError.{JudgeError}
use Rattle.cfarm_program_status.specs.Reading.{Coming, OnFile}
use Rattle.cfarm_program_status.specs.Telling.{Answer, quiet, told}

-- of the function of this name and the file of this path
abbrev pub judge_fault : (name path : List ℕ) → JudgeError → Answer
judge_fault name path fault = told (judge.status_of fault) (judge.judge_line fault name path)

-- the pass of the offer accepts it, or the first reason why it does not is told
abbrev pub Accepted : (name path : List ℕ) → (text offer : List ℕ) → Coming
Accepted name path text offer answer before after =
    (HasJudged text name offer before after × (answer ≡ quiet))
    ⊎ ((fault : JudgeError) × IsUnjudged text name offer fault × Printed text name offer before after fault × (answer ≡ judge_fault name path fault))

-- the file of the offer is read
abbrev pub Judged : (List ℕ → Option (Result (List ℕ) FileFault)) → (name path text : List ℕ) → Coming
Judged known name path text = OnFile known path (Accepted name path text)
