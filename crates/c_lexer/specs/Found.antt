-- What the lexer finds at the front of a text.
use Rattle.std.specs.Prelude.{◌≢◌, ℕ, ◌≤◌, List, length, take, drop, Result, Ok, Err}
use Rattle.c_lexer.specs.declared.errors.LexError.{LexError}
use Rattle.c_lexer.specs.declared.errors.LexError.TheVariants.{NoMemory}
use Rattle.c_lexer.specs.declared.found.Found.{Found}
use Rattle.c_lexer.specs.FaultsAt.{IsFaultAt}
use Rattle.c_lexer_lexemes.specs.Parts.{IsPart}

-- What was found at the front of a text, at an offset of the whole one: a part of it, or a fault.
abbrev pub IsFound : ℕ → List ℕ → Result Found LexError → Type 0
IsFound offset text (Ok found) = (found.len ≤ length text) × IsPart found.kind (take found.len text) (drop found.len text)
IsFound offset text (Err e) = e ≢ NoMemory → IsFaultAt offset text e
