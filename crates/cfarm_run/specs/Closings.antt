-- The line that closes a run.
use Rattle.std.specs.Prelude.{ℕ, List, ◌++◌, codes}
use Rattle.std.specs.Fmt.{signed_decimal}
use Rattle.ints.specs.Words.{signed}
use Rattle.lang_base.specs.declared.shown.Shown.{Shown}
use Rattle.lang_base.specs.declared.shown.Shown.TheVariants.{Running, Ended, Wrong}

abbrev pub closing_line : Shown → List ℕ
closing_line (Ended result) = codes "ended " ++ signed_decimal (signed result)
closing_line Wrong = codes "wrong"
closing_line Running = codes "running"
