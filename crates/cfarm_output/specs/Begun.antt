-- What a writer that failed may hold.
use Rattle.std.specs.Prelude.{ℕ, List, Option}
use Rattle.std.specs.Io.KnownBytes.{Appends}
use Rattle.lang_base.specs.Behaviour.{IsBeginningOf}

-- a beginning of the text was printed
abbrev pub IsBegun : List ℕ → Option (List ℕ) → Option (List ℕ) → Type 0
IsBegun text before after = (front : List ℕ) × IsBeginningOf front text × Appends before after front
