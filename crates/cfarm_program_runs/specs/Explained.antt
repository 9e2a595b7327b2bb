-- Which answers a user is told more of.
use Rattle.std.specs.Prelude.{Bool, false, true}
use Rattle.cfarm_command_line_tasks.specs.declared.task.Explaining.{Explaining}
use Rattle.cfarm_command_line_tasks.specs.declared.task.Explaining.TheVariants.{Seen, Always}
use Rattle.cfarm_command_line_tasks.specs.declared.task.Format.TheVariants.{Plain, Gcc, Json}
use Rattle.cfarm_command_line_tasks.specs.declared.task.Task.{Task}
use Rattle.cfarm_command_line_tasks.specs.declared.task.Task.TheVariants.{Check, Interpret, Build, Exec, Settle, Simulate, Show, List, Verify, Emit, Judge, Native, Fsck}

-- whether the end of a run is explained: to a user, and where that is asked for
abbrev pub is_asked : Bool → Explaining → Bool
is_asked is_seen Seen = is_seen
is_asked is_seen Always = true

-- whether the answer of a task is explained: to a user, but not where a refusal is told in a form for programs, and of a run where
-- that is asked for
abbrev pub is_explained : Bool → Task → Bool
is_explained is_seen (Check Plain) = is_seen
is_explained is_seen (Check Gcc) = false
is_explained is_seen (Check Json) = false
is_explained is_seen (Interpret depth explaining) = is_asked is_seen explaining
is_explained is_seen (Build options) = is_seen
is_explained is_seen (Exec limit expected explaining) = is_asked is_seen explaining
is_explained is_seen Settle = is_seen
is_explained is_seen (Simulate showing) = is_seen
is_explained is_seen Show = is_seen
is_explained is_seen List = is_seen
is_explained is_seen (Verify paths) = is_seen
is_explained is_seen (Emit emitted seed) = is_seen
is_explained is_seen (Judge offer) = is_seen
is_explained is_seen (Native options) = is_seen
is_explained is_seen (Fsck options) = is_seen
