-- What an interpreter answers and has written, where a run shows this at the bound.
use Rattle.std.specs.Prelude.{◌≡◌, ℕ, List, Option, Result, Ok, Err}
use Rattle.std.specs.Io.KnownBytes.{Appends}
use Rattle.lang_base.specs.declared.shown.Shown.{Shown}
use Rattle.lang_base.specs.Behaviour.{Shows, IsBeginningOf}
use Rattle.lang_helpers.specs.declared.error.RunError.{RunError}

-- all of the output, and how the run stands; or a fault, and a beginning of the output
abbrev pub Wrote : Shows → Result Shown RunError → Option (List ℕ) → Option (List ℕ) → Type 0
Wrote shows (Ok shown) before after = (shown ≡ shows.shown) × Appends before after shows.output
Wrote shows (Err fault) before after = (printed : List ℕ) × IsBeginningOf printed shows.output × Appends before after printed
