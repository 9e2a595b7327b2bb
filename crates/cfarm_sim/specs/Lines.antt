-- The line that a user is shown where a schedule is not played to its end, and the exit status.
use Rattle.std.specs.Prelude.{ℕ, List, ◌++◌, codes}
use Rattle.std.specs.Fmt.{decimal}
use Rattle.cfarm_sim.specs.declared.error.ScheduleError.{ScheduleError}
use Rattle.cfarm_sim.specs.declared.error.ScheduleError.TheVariants.{NoMemory, Schedule, Write}

abbrev pub schedule_line : ScheduleError → List ℕ
schedule_line NoMemory = codes "memory"
schedule_line (Schedule line) = codes "schedule " ++ decimal line
schedule_line Write = codes "write 701"

abbrev pub status_of : ScheduleError → ℕ
status_of NoMemory = 7
status_of (Schedule line) = 2
status_of Write = 4
