-- Which of two answers is told.
use Rattle.std.specs.Prelude.{◌≡◌, ◌≢◌, ◌⊎◌}
use Rattle.clap.specs.Words.{kind_of}
use Rattle.clap.specs.declared.error.Error.{Error}
use Rattle.clap.specs.declared.error.kind.ErrorKind.TheVariants.{OutOfMemory}

-- one of the two, and that memory was refused is not passed over
abbrev pub IsTold : Error → Error → Error → Type 0
IsTold counted unbounded told = ((told ≡ counted) × (kind_of unbounded ≢ OutOfMemory))
    ⊎ ((told ≡ unbounded) × ((kind_of unbounded ≡ OutOfMemory) ⊎ (kind_of counted ≢ OutOfMemory)))
