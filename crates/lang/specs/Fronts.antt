-- What is said of a reader whose values alone are known: which value's text is a front of the bytes, or that none is.
use Rattle.std.specs.Prelude.{◌≡◌, ◌≢◌, ℕ, List, [], ◌++◌, length, Result, Ok, Err}
use Rattle.std.specs.List.{flat_map}
use Rattle.lang_base.specs.declared.errors.FormError.{FormError}
use Rattle.lang_base.specs.declared.errors.FormError.TheVariants.{NoMemory}
use Rattle.lang_base.specs.Texts.{EachFits}
use Rattle.lang_base.specs.declared.program.Named.{Named}
use Rattle.lang.specs.Form.{named_text, FunctionFits}

-- no front of the bytes is the text of a value that fits
abbrev pub NoFront : {A : Type 0} → (A → List ℕ) → (A → Type 0) → List ℕ → Type 0
NoFront {A} text Fits bytes = (x : A) (rest : List ℕ) → Fits x → bytes ≡ text x ++ rest → ⊥

-- A value that fits was read and the rest is left, or there is none; where memory ran out, nothing is said.
abbrev pub Fronts : {A : Type 0} → (A → List ℕ) → (A → Type 0) → List ℕ → Result A FormError → List ℕ → Type 0
Fronts text Fits bytes (Ok x) rest = (bytes ≡ text x ++ rest) × Fits x
Fronts text Fits bytes (Err e) rest = e ≢ NoMemory → NoFront text Fits bytes

-- no text of these is a beginning of another, and no two share one
abbrev pub OneText : {A : Type 0} → (A → List ℕ) → (A → Type 0) → Type 0
OneText {A} text Fits = (f g : A) (x y : List ℕ) → Fits f → Fits g → text f ++ x ≡ text g ++ y → (f ≡ g) × (x ≡ y)

abbrev pub functions_text : {F : Type 0} → (F → List ℕ) → List (Named F) → List ℕ
functions_text spelling fs = flat_map (named_text spelling) fs

-- so many named functions
abbrev pub FunctionsFit : {F : Type 0} → (F → Type 0) → ℕ → List (Named F) → Type 0
FunctionsFit Fits count fs = (length fs ≡ count) × EachFits (FunctionFits Fits) [] fs
