-- What a writer's answer to so many bytes means.
use Rattle.std.specs.Prelude.{◌≡◌, ℕ, ◌<◌, ◌≤◌, Result, Ok, Err}
use Rattle.std.specs.IoError.{error_kind}
use Rattle.std.specs.declared.io.Error.{Error}
use Rattle.std.specs.declared.io.ErrorKind.TheVariants as kind
use Rattle.lang_helpers.specs.declared.answers.Answer.{Answer}
use Rattle.lang_helpers.specs.declared.answers.Answer.TheVariants.{Taken, Interrupted, Failed}

-- a number that may have been taken of those that were offered
abbrev pub MayBeTaken : ℕ → ℕ → Type 0
MayBeTaken offered taken = (0 < taken) × (taken ≤ offered)

-- so many were taken; a signal interrupted the write; all else is a failure
abbrev pub Means : ℕ → Result ℕ Error → Answer → Type 0
Means offered (Ok taken) (Taken told) = (told ≡ taken) × MayBeTaken offered taken
Means offered (Ok taken) Interrupted = ⊥
Means offered (Ok taken) Failed = MayBeTaken offered taken → ⊥
Means offered (Err fault) (Taken told) = ⊥
Means offered (Err fault) Interrupted = error_kind fault ≡ kind.Interrupted
Means offered (Err fault) Failed = error_kind fault ≡ kind.Interrupted → ⊥
