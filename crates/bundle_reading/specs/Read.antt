-- What was read of each function: the parts of its four offers.
use Rattle.std.specs.Prelude.{◌≡◌, ◌≢◌, ℕ, List, [], ◌∷◌, Result, Ok, Err, Some, length, map, slice_get}
use Rattle.lang_base.specs.declared.language.Language as language
use Rattle.lang_base.specs.declared.pass.Pass as pass
use Rattle.lang_base.specs.declared.errors.FormError.{FormError}
use Rattle.lang_base.specs.declared.errors.FormError.TheVariants.{NoMemory}
use Rattle.offers.specs.Text.{text_of, PartsFit}
use Rattle.offers.specs.declared.parts.Parts.{Parts}
use Rattle.chains.specs.declared.offering.Offers.{Offers}
use Rattle.chains.specs.Lent.{OfConstants, OfExpressions, OfAllocation, OfOrder}
use Rattle.bundle_form.specs.declared.bundle.Texts.{Texts}
use Rattle.bundle_reading.specs.declared.four.Four.{Four}
use Rattle.bundle_reading.specs.Texts.{HasNoOffers, OffersFit, texts_of}

-- the same parts, as offers: as plain data an offer is its parts
abbrev pub offers_of : Four → Offers
offers_of four = record { constants = four.constants; expressions = four.expressions; allocation = four.allocation; order = four.order }

abbrev pub offers_in : List Four → List Offers
offers_in fours = map offers_of fours

-- the texts spell these parts
pub record IsRead (t : Texts) (four : Four) : Type 0 where
  pub text : t ≡ texts_of (offers_of four)
  pub fits : OffersFit (offers_of four)

-- function by function
abbrev pub AreRead : List Texts → List Four → Type 0
AreRead [] [] = Unit {0}
AreRead [] (f ∷ fours) = ⊥
AreRead (t ∷ ts) [] = ⊥
AreRead (t ∷ ts) (f ∷ fours) = IsRead t f × AreRead ts fours

-- ---- what is found of a text: what it spells, or that it spells nothing

module _ {A : Type 0} (Fits : A → Type 0) (text : A → List ℕ) (bytes : List ℕ) where
  abbrev pub IsText : Result A FormError → Type 0
  IsText (Ok x) = Fits x × (bytes ≡ text x)
  IsText (Err fault) = fault ≢ NoMemory → (x : A) → Fits x → bytes ≢ text x

-- the same of a pass from one language to another
abbrev pub IsPartsText : {P A B C I O : Type 0} → language.Ghosts A I → language.Ghosts B O → pass.Ghosts P A B C I O → List ℕ → Result (Parts I O C) FormError → Type 0
IsPartsText from to by bytes found = IsText (PartsFit from.fits to.fits by.cert_fits) (text_of from to by) bytes found

-- both of two, or the first fault
abbrev pub both_of : {A B : Type 0} → Result A FormError → Result B FormError → Result (A × B) FormError
both_of (Ok one) (Ok other) = Ok (one, other)
both_of (Ok one) (Err fault) = Err fault
both_of (Err fault) other = Err fault

abbrev pub four_found : Result (OfConstants × OfExpressions) FormError → Result (OfAllocation × OfOrder) FormError → Result Four FormError
four_found (Ok front) (Ok back) = Ok (record { constants = front.0; expressions = front.1; allocation = back.0; order = back.1 })
four_found (Ok front) (Err fault) = Err fault
four_found (Err fault) back = Err fault

-- ---- what is found of each function by itself: the parts, or that its texts spell none

abbrev pub IsFound : Texts → Result Four FormError → Type 0
IsFound t (Ok four) = IsRead t four
IsFound t (Err fault) = fault ≢ NoMemory → HasNoOffers t

abbrev pub IsFoundAt : List Texts → ℕ → Result Four FormError → Type 0
IsFoundAt ts i found = (t : Texts) → slice_get ts i ≡ Some t → IsFound t found

-- function by function
abbrev pub AreFound : List Texts → List (Result Four FormError) → Type 0
AreFound [] [] = Unit {0}
AreFound [] (f ∷ found) = ⊥
AreFound (t ∷ ts) [] = ⊥
AreFound (t ∷ ts) (f ∷ found) = IsFound t f × AreFound ts found

-- ---- what is found of functions, beside what is answered of it

-- what is found of one
abbrev pub four_in : {T : Type 0} → Result (Four × T) FormError → Result Four FormError
four_in (Ok both) = Ok both.0
four_in (Err fault) = Err fault

-- all was found: these are the parts, and the answer to each
pub record AreGathered {T : Type 0} (found : List (Result (Four × T) FormError)) (fours : List Four) (told : List T) : Type 0 where
  pub count : length told ≡ length fours
  pub each : (i : ℕ) (four : Four) (answer : T) → slice_get fours i ≡ Some four → slice_get told i ≡ Some answer → slice_get found i ≡ Some (Ok (four, answer))
