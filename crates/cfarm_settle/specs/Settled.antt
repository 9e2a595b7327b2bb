-- What `settle` prints, and what it refuses.
use Rattle.std.specs.Prelude.{◌≡◌, ◌≢◌, ℕ, List, [], ◌∷◌, ◌++◌, Option}
use Rattle.std.specs.Io.KnownBytes.{Appends}
use Rattle.hex.specs.Hex.{encode_lower}
use Rattle.lang_base.specs.declared.errors.FormError.{FormError}
use Rattle.lang_base.specs.declared.errors.FormError.TheVariants as form
use Rattle.ltl.specs.Function as ltl
use Rattle.ltl.specs.Spelling as ltl_spelling
use Rattle.cfarm_output.specs.Begun.{IsBegun}
use Rattle.cfarm_settle.specs.LaidOut.{AgreeOn, Seats}
use Rattle.cfarm_settle.specs.declared.settle_error.SettleError.{SettleError}
use Rattle.cfarm_settle.specs.declared.settle_error.SettleError.TheVariants.{NoMemory, Form, Undecided, Write}

-- an end of line, "agreed 3", and an end of line
abbrev pub ending : List ℕ
ending = 10 ∷ 97 ∷ 103 ∷ 114 ∷ 101 ∷ 101 ∷ 100 ∷ 32 ∷ 51 ∷ 10 ∷ []

-- what is printed of this code: it in lower case hex, and `agreed 3`, each on a line
abbrev pub settled_text : List ℕ → List ℕ
settled_text code = encode_lower code ++ ending

-- The bytes spell an LTL function. What is printed is the text of the code that the nodes of these seats have agreed on for it.
pub record IsSettled (bytes : List ℕ) (seats : Seats) (printed : List ℕ) : Type 0 where
  pub function : ltl.FunctionData
  pub code : List ℕ
  pub read : bytes ≡ ltl_spelling.spelling function
  pub agreed : AgreeOn seats function code
  pub prints : printed ≡ settled_text code

-- that was printed
abbrev pub HaveSettled : List ℕ → Seats → Option (List ℕ) → Option (List ℕ) → Type 0
HaveSettled bytes seats before after = (printed : List ℕ) × IsSettled bytes seats printed × Appends before after printed

-- Why the text was not printed, and what was: nothing, or where the writer failed a beginning of it.
abbrev pub IsUnprinted : List ℕ → SettleError → Option (List ℕ) → Option (List ℕ) → Type 0
IsUnprinted text NoMemory before after = after ≡ before
IsUnprinted text Write before after = IsBegun text before after
IsUnprinted text other before after = ⊥

-- the text of this code was not
abbrev pub IsCodeUnprinted : List ℕ → Option (List ℕ) → Option (List ℕ) → SettleError → Type 0
IsCodeUnprinted code before after fault = IsUnprinted (settled_text code) fault before after

-- The bytes are those of one LTL function.
abbrev pub IsAFunction : List ℕ → Type 0
IsAFunction bytes = (f : ltl.FunctionData) × ltl.IsFunction f × (bytes ≡ ltl_spelling.spelling f)

-- They are not.
abbrev pub IsNoFunction : List ℕ → Type 0
IsNoFunction bytes = (f : ltl.FunctionData) → ltl.IsFunction f → bytes ≡ ltl_spelling.spelling f → ⊥

-- Where bytes stand behind those of a function, that is the fault.
abbrev pub IsBehindTold : List ℕ → FormError → Type 0
IsBehindTold bytes fault = fault ≢ form.NoMemory → (f : ltl.FunctionData) (first : ℕ) (rest : List ℕ) →
    ltl.IsFunction f → bytes ≡ ltl_spelling.spelling f ++ first ∷ rest → fault ≡ form.NotCanonical

-- What each refusal says of the bytes, and what was printed then: nothing, or where the writer failed a beginning of what is
-- agreed on. That the nodes decide, nobody promises, but only of a function can they be undecided.
abbrev pub IsRefused : List ℕ → SettleError → Option (List ℕ) → Option (List ℕ) → Type 0
IsRefused bytes NoMemory before after = after ≡ before
IsRefused bytes (Form fault) before after = IsNoFunction bytes × IsBehindTold bytes fault × (after ≡ before)
IsRefused bytes Undecided before after = IsAFunction bytes × (after ≡ before)
IsRefused bytes Write before after = (seats : Seats) × (printed : List ℕ) × IsSettled bytes seats printed × IsBegun printed before after
