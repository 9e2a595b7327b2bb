-- Each status of the commands is at most 7.
use Rattle.std.specs.Prelude.{ℕ, ℤ, Option, None, Some, ◌≤◌, ◌==◌, Bool, true, false, if◌then◌else◌}
use Rattle.std.specs.Int.{cast_unsigned, w32}
use Rattle.std.proofs.Common.{arith}
use Rattle.lang_base.specs.declared.errors.FormError.TheVariants as F
use Rattle.lang_base.specs.declared.shown.Shown.{Shown}
use Rattle.lang_base.specs.declared.shown.Shown.TheVariants as S
use Rattle.lang_helpers.specs.declared.error.RunError.TheVariants as R
use Rattle.c_texts.specs.Refusals.{number_of}
use Rattle.cfarm_run.specs.TextStatuses.{status_of_end, status_of_error, status_of_shown, status_where}
use Rattle.cfarm_run.specs.declared.command_error.CommandError.{CommandError}
use Rattle.cfarm_run.specs.declared.command_error.CommandError.TheVariants as C
use Rattle.cfarm_run.specs.ExecStatuses as exec
use Rattle.cfarm_run.specs.declared.exec_error.ExecError.{ExecError}
use Rattle.cfarm_run.specs.declared.exec_error.ExecError.TheVariants as X
use Rattle.cfarm_settle.specs.SettleStatuses as settle
use Rattle.cfarm_sim.specs.Lines as schedule
use Rattle.cfarm_sim.specs.declared.error.ScheduleError.{ScheduleError}
use Rattle.cfarm_sim.specs.declared.error.ScheduleError.TheVariants as P
use Rattle.cfarm_settle.specs.declared.settle_error.SettleError.{SettleError}
use Rattle.cfarm_settle.specs.declared.settle_error.SettleError.TheVariants as T

either : (b : Bool) → (if b then 7 else 1) ≤ 7
either true = omega arith
either false = omega arith

pub error_in_table : (e : CommandError) → status_of_error e ≤ 7
error_in_table (C.Text fault) = either (number_of fault == 1)
error_in_table (C.Run R.NoMemory) = omega arith
error_in_table (C.Run R.Write) = omega arith

pub shown_in_table : (s : Shown) → status_of_shown s ≤ 7
shown_in_table (S.Ended result) = omega arith
shown_in_table S.Wrong = omega arith
shown_in_table S.Running = omega arith

five : (b : Bool) → (if b then 0 else 5) ≤ 7
five true = omega arith
five false = omega arith

end_in_table : (s : Shown) (wanted : ℕ) → status_of_end s wanted ≤ 7
end_in_table (S.Ended result) wanted = five (result == wanted)
end_in_table S.Wrong wanted = omega arith
end_in_table S.Running wanted = omega arith

pub where_in_table : (s : Shown) (expected : Option ℤ) → status_where s expected ≤ 7
where_in_table s None = shown_in_table s
where_in_table s (Some wanted) = end_in_table s (cast_unsigned w32 wanted)

pub exec_in_table : (e : ExecError) → exec.status_of e ≤ 7
exec_in_table (X.Form F.NoMemory) = omega arith
exec_in_table (X.Form F.Short) = omega arith
exec_in_table (X.Form F.BadTag) = omega arith
exec_in_table (X.Form F.NotCanonical) = omega arith
exec_in_table (X.Form F.TooLarge) = omega arith
exec_in_table (X.Run R.NoMemory) = omega arith
exec_in_table (X.Run R.Write) = omega arith

pub settle_in_table : (e : SettleError) → settle.status_of e ≤ 7
settle_in_table T.NoMemory = omega arith
settle_in_table (T.Form fault) = omega arith
settle_in_table T.Undecided = omega arith
settle_in_table T.Write = omega arith

pub schedule_in_table : (e : ScheduleError) → schedule.status_of e ≤ 7
schedule_in_table P.NoMemory = omega arith
schedule_in_table (P.Schedule line) = omega arith
schedule_in_table P.Write = omega arith
