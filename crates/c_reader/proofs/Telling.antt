-- What a refusal tells of a reading.
use Rattle.std.proofs.Common.{◌≡◌, ◌≢◌, ℕ, List, Option, Result, Err, refl}
use Rattle.c_syntax.specs.declared.token.Token.{Token}
use Rattle.c_reader_tokens.specs.declared.fault.Fault.{Fault}
use Rattle.c_reader_tokens.specs.declared.fault.Fault.TheVariants as F
use Rattle.c_reader.specs.Telling.{error_of, Tells}

pub tells_fault : {A : Type 0} (f : Fault) (initial : Option ℕ) (ts : List Token) (end : ℕ) (r : Result A Fault) → (f ≢ F.NoMemory → r ≡ Err f) → Tells (error_of f initial ts end) end r
tells_fault F.NoMemory initial ts end r h = tt
tells_fault (F.Syntax at) initial ts end r h = (at, h (λ e. cc), refl)
tells_fault F.TooDeep initial ts end r h = h (λ e. cc)
