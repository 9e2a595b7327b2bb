-- What bytes are among the texts of a pass from one language to another, and what is answered to them.
use Rattle.std.specs.Prelude.{◌≡◌, ◌≢◌, ℕ, List, ◌∷◌, ◌++◌, Result, IsErrAnd}
use Rattle.lang_base.specs.declared.errors.FormError.{FormError}
use Rattle.lang_base.specs.declared.errors.FormError.TheVariants as form
use Rattle.lang_base.specs.declared.language.Language as language
use Rattle.lang_base.specs.declared.pass.Pass as pass
use Rattle.offers.specs.declared.errors.OfferError.{OfferError}
use Rattle.offers.specs.declared.errors.OfferError.TheVariants as offer
use Rattle.offers.specs.declared.parts.Parts.{Parts}
use Rattle.offers.specs.Fronts.{IsOnlyFront, HasNoFront}
use Rattle.offers.specs.Text.{text_of, PartsFit}

-- The front that is a certificate beside this input and output.
module _ {P A B C I O : Type 0} (by : pass.Ghosts P A B C I O) (input : I) (output : O) (bytes : List ℕ) where
  abbrev pub IsOnlyCertificate : C → List ℕ → Type 0
  IsOnlyCertificate found behind = IsOnlyFront (by.cert_fits input output) (by.cert_spelling input output) bytes found behind

  abbrev pub HasNoCertificate : Type 0
  HasNoCertificate = HasNoFront (by.cert_fits input output) (by.cert_spelling input output) bytes

module _ {P A B C I O : Type 0} (from : language.Ghosts A I) (to : language.Ghosts B O) (by : pass.Ghosts P A B C I O) (bytes : List ℕ) where
  abbrev Fits : Parts I O C → Type 0
  Fits = PartsFit from.fits to.fits by.cert_fits

  -- The front that is the text of parts.
  abbrev pub IsOnlyText : Parts I O C → List ℕ → Type 0
  IsOnlyText found behind = IsOnlyFront Fits (text_of from to by) bytes found behind

  abbrev pub HasNoText : Type 0
  HasNoText = HasNoFront Fits (text_of from to by) bytes

  -- the bytes are the text of no other parts
  abbrev pub AreOnlyParts : Parts I O C → Type 0
  AreOnlyParts found = (parts : Parts I O C) → Fits parts → bytes ≡ text_of from to by parts → found ≡ parts

  -- they are the text of no parts
  abbrev pub IsNoText : Type 0
  IsNoText = (parts : Parts I O C) → Fits parts → bytes ≢ text_of from to by parts

  -- they are the text of parts that are not accepted
  abbrev pub IsUnaccepted : Type 0
  IsUnaccepted =
      (parts : Parts I O C) × Fits parts × (bytes ≡ text_of from to by parts)
      × (by.accepts parts.input parts.output parts.certificate → ⊥)

  -- Unless memory was refused, they are the text of no accepted parts; and where the form was refused, of no parts.
  abbrev pub Rejects : OfferError → Type 0
  Rejects e =
      e ≢ offer.NoMemory → (parts : Parts I O C) → Fits parts
      → by.accepts parts.input parts.output parts.certificate → bytes ≢ text_of from to by parts

  abbrev pub RejectsForm : OfferError → Type 0
  RejectsForm e = e ≢ offer.NoMemory → e ≢ offer.Refused → IsNoText

  -- where bytes stand behind a text, the form is refused, unless memory is
  abbrev pub RefusesMore : {A : Type 0} → Result A FormError → Type 0
  RefusesMore answer =
      (parts : Parts I O C) (first : ℕ) (rest : List ℕ) → Fits parts → bytes ≡ text_of from to by parts ++ first ∷ rest
      → IsErrAnd answer (λ e. e ≢ form.NoMemory → e ≡ form.NotCanonical)

  abbrev pub RejectsMore : {A : Type 0} → Result A OfferError → Type 0
  RejectsMore answer =
      (parts : Parts I O C) (first : ℕ) (rest : List ℕ) → Fits parts → bytes ≡ text_of from to by parts ++ first ∷ rest
      → IsErrAnd answer (λ e. e ≢ offer.NoMemory → e ≡ offer.NotCanonical)
