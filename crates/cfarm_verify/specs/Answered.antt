-- The line that is printed, by what was found.
use Rattle.std.specs.Prelude.{◌≡◌, ℕ, List, Result, Ok, Err}
use Rattle.cfarm_verify.specs.Lines.{line_with, verified_line}
use Rattle.cfarm_verify.specs.Told.{IsVerified}
use Rattle.cfarm_verify.specs.declared.error.VerifyError.{VerifyError}
use Rattle.cfarm_verify.specs.declared.error.VerifyError.TheVariants.{NoMemory}

-- of so many functions, with the digits of a hash; else the fault, or that memory was refused
abbrev pub IsLineFor : {S E : Type 0} → (S → List ℕ) → Result ℕ VerifyError → Result S E → Result S VerifyError → Type 0
IsLineFor bytes (Err fault) digits answer = answer ≡ Err fault
IsLineFor bytes (Ok functions) (Err refused) answer = answer ≡ Err NoMemory
IsLineFor bytes (Ok functions) (Ok digits) (Ok line) = bytes line ≡ line_with functions (bytes digits)
IsLineFor bytes (Ok functions) (Ok digits) (Err fault) = fault ≡ NoMemory

-- it says that the program is verified
abbrev pub IsAnswer : (text program bundle line : List ℕ) → Type 0
IsAnswer text program bundle line = (n : ℕ) × IsVerified text program bundle n × (line ≡ verified_line n program)
