-- The texts of the parts that forms are made of, and which values have one.
use Rattle.std.specs.Prelude.{◌≡◌, ℕ, List, [], ◌∷◌, ◌++◌, length, Option, Some, None, Result, Ok, Err}
use Rattle.std.specs.List.{flat_map}
use Rattle.lang_base.specs.Behaviour.{IsBeginningOf}

-- a flag, and the part where there is one
abbrev pub option_code : {A : Type 0} → Option A → ℕ
option_code None = 0
option_code (Some x) = 1

abbrev pub option_body : {A : Type 0} → (A → List ℕ) → Option A → List ℕ
option_body text None = []
option_body text (Some x) = text x

abbrev pub optional_text : {A : Type 0} → (A → List ℕ) → Option A → List ℕ
optional_text text x = option_code x ∷ option_body text x

-- the number of the parts, and the parts
abbrev pub counted_text : {A : Type 0} → (ℕ → List ℕ) → (A → List ℕ) → List A → List ℕ
counted_text count text xs = count (length xs) ++ flat_map text xs

-- each fits behind those that it stands behind
abbrev pub EachFits : {A : Type 0} → (List A → A → Type 0) → List A → List A → Type 0
EachFits Fits before [] = Unit {0}
EachFits Fits before (x ∷ xs) = Fits before x × EachFits Fits (before ++ x ∷ []) xs

-- What a writer leaves: the text at the end of what was there, or, where memory ran out, what was there at the front.
abbrev pub Appends : {T E : Type 0} → Result T E → List ℕ → List ℕ → List ℕ → Type 0
Appends (Ok x) text old new = new ≡ old ++ text
Appends (Err e) text old new = IsBeginningOf old new
