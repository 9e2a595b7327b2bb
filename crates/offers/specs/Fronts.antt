-- Reading one value off the front of bytes.
use Rattle.std.specs.Prelude.{◌≡◌, ◌≢◌, ℕ, List, ◌∷◌, ◌++◌}

-- however the bytes are split into the text of a value and a rest, it is this value and this rest
abbrev pub IsOnlyFront : {A : Type 0} → (A → Type 0) → (A → List ℕ) → List ℕ → A → List ℕ → Type 0
IsOnlyFront {A} Fits text_of_value bytes found behind = (value : A) (rest : List ℕ) → Fits value → bytes ≡ text_of_value value ++ rest → (found ≡ value) × (behind ≡ rest)

-- the bytes begin with the text of no value
abbrev pub HasNoFront : {A : Type 0} → (A → Type 0) → (A → List ℕ) → List ℕ → Type 0
HasNoFront {A} Fits text_of_value bytes = (value : A) (rest : List ℕ) → Fits value → bytes ≡ text_of_value value ++ rest → ⊥

-- no text is a beginning of another, and no two values share one
abbrev pub HasOneText : {A : Type 0} → (A → Type 0) → (A → List ℕ) → Type 0
HasOneText {A} Fits text = (a b : A) (x y : List ℕ) → Fits a → Fits b → text a ++ x ≡ text b ++ y → (a ≡ b) × (x ≡ y)

-- where the first byte is another one, this is answered
abbrev pub AnswersOther : {A : Type 0} → ℕ → List ℕ → A → A → Type 0
AnswersOther number bytes answer told = (first : ℕ) (rest : List ℕ) → bytes ≡ first ∷ rest → first ≢ number → answer ≡ told
