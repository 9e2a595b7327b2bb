-- Returns to a caller in memory.
use Rattle.std.specs.Prelude.{◌≡◌, ℕ, List, map, Option}
use Rattle.machine.specs.Frames.{resumed}
use Rattle.linear_faults_run.specs.declared.callers.Caller.{Caller}
use Rattle.linear_faults_run.specs.declared.run.Run.{Run}
use Rattle.linear_faults_run.specs.Standing.{data_of, frame_of, state_of}

-- this caller goes on with what is given back
abbrev pub Resumes : Run → Caller → Option ℕ → Run → Type 0
Resumes before caller given after =
    (output : List ℕ)
    → resumed given (data_of before.words before.globals.items output) (frame_of caller) (map frame_of before.callers) ≡ state_of after output
