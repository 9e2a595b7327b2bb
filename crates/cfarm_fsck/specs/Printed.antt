-- What was printed of the lines of a folder.
use Rattle.std.specs.Prelude.{ℕ, List, Option, Result, MatchResult}
use Rattle.std.specs.Io.KnownBytes.{Appends}
use Rattle.cfarm_output.specs.Begun.{IsBegun}
use Rattle.cfarm_fsck.specs.declared.error.FsckError.{FsckError}

-- the bytes were printed, or where that failed a beginning of them; `contents` says what the writer holds
abbrev pub Prints : {W T : Type 0} → (contents : W → Option (List ℕ)) → List ℕ → Result T FsckError → (before after : W) → Type 0
Prints contents bytes result before after =
    MatchResult result (λ _. Appends (contents before) (contents after) bytes) (λ _. IsBegun bytes (contents before) (contents after))
