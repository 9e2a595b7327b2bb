-- What standard error holds, and whether it has failed.
use Rattle.std.specs.Prelude.{◌≡◌, ℕ, List, Option, Bool, true}
use Rattle.std.specs.Io.KnownBytes.{Appends}

-- its bytes, where those are known, and whether a write or a flush of it has failed
pub record ErrorsHeld : Type 0 where
  pub bytes : Option (List ℕ)
  pub has_failed : Bool

-- the known bytes grow by these, and nothing fails
abbrev pub Tells : ErrorsHeld → ErrorsHeld → List ℕ → Type 0
Tells before after bytes = Appends before.bytes after.bytes bytes × (after.has_failed ≡ before.has_failed)

abbrev pub HasFailed : ErrorsHeld → Type 0
HasFailed after = after.has_failed ≡ true
