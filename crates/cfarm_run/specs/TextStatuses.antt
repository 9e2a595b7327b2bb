-- The exit statuses of the program.
use Rattle.std.specs.Prelude.{ℕ, ℤ, Option, None, Some, ◌==◌, if◌then◌else◌}
use Rattle.std.specs.Int.{cast_unsigned, w32}
use Rattle.lang_base.specs.declared.shown.Shown.{Shown}
use Rattle.lang_base.specs.declared.shown.Shown.TheVariants.{Running, Ended, Wrong}
use Rattle.c_texts.specs.Refusals.{number_of}
use Rattle.lang_helpers.specs.declared.error.RunError.TheVariants as R
use Rattle.cfarm_run.specs.declared.command_error.CommandError.{CommandError}
use Rattle.cfarm_run.specs.declared.command_error.CommandError.TheVariants.{Text, Run}

-- after a run
abbrev pub status_of_shown : Shown → ℕ
status_of_shown (Ended result) = 0
status_of_shown Wrong = 5
status_of_shown Running = 6

-- after a run that is to end with a result: 5 where it does not; a result is a word of 32 bits
abbrev pub status_of_end : Shown → ℕ → ℕ
status_of_end (Ended result) wanted = if result == wanted then 0 else 5
status_of_end Wrong wanted = 5
status_of_end Running wanted = 5

abbrev pub status_where : Shown → Option ℤ → ℕ
status_where shown None = status_of_shown shown
status_where shown (Some wanted) = status_of_end shown (cast_unsigned w32 wanted)

-- where a command is not done: 7 where memory was refused, whose number is 1
abbrev pub status_of_error : CommandError → ℕ
status_of_error (Text fault) = if number_of fault == 1 then 7 else 1
status_of_error (Run R.NoMemory) = 7
status_of_error (Run R.Write) = 4
