-- Whether bytes are a written offer that a pass accepts, over the spelling and the rules of any pass.
use Rattle.std.specs.Prelude.{◌≡◌, ◌≢◌, ℕ, List, ◌∷◌, ◌++◌}
use Rattle.lang_base.specs.declared.errors.FormError.{FormError}
use Rattle.lang_base.specs.declared.errors.FormError.TheVariants as form
use Rattle.lang_base.specs.declared.fault.Fault.{Fault}
use Rattle.lang_base.specs.declared.language.Language as language
use Rattle.lang_base.specs.declared.pass.Pass as pass
use Rattle.offers.specs.declared.parts.Parts.{Parts}
use Rattle.offers.specs.Text.{text_of, PartsFit}
use Rattle.bundle_offers.specs.declared.fault.OfferFault.{OfferFault}
use Rattle.bundle_offers.specs.declared.fault.OfferFault.TheVariants as offer
use Rattle.bundle_offers.specs.declared.fault.PassNumber.{PassNumber}
use Rattle.cfarm_judge.specs.declared.error.JudgeError.{JudgeError}
use Rattle.cfarm_judge.specs.declared.error.JudgeError.TheVariants.{NoMemory, Form, Unchained, Refused}

-- what is told of an offer that does not stand
abbrev pub told_of : OfferFault → JudgeError
told_of offer.NoMemory = NoMemory
told_of (offer.Unchained pass) = Unchained
told_of (offer.Refused pass fault) = Refused pass fault

-- Which parts have a spelling, and which.
module _ {X : Type 0} (Fits : X → Type 0) (spell : X → List ℕ) (bytes : List ℕ) where
  -- all of the bytes are the text of these parts, and of no others
  pub record IsTextOf (parts : X) : Type 0 where
    pub fits : Fits parts
    pub text : bytes ≡ spell parts
    pub only : (other : X) → Fits other → bytes ≡ spell other → parts ≡ other

  -- the bytes spell no parts; where bytes stand behind a text, which fault it is
  pub record HasNoParts (fault : FormError) : Type 0 where
    pub none : (parts : X) → Fits parts → bytes ≢ spell parts
    pub behind : (parts : X) (first : ℕ) (rest : List ℕ) → Fits parts → bytes ≡ spell parts ++ first ∷ rest → fault ≡ form.NotCanonical

-- And which input is wanted, what the pass accepts, and what is said where it does not.
module _ {X : Type 0} (Fits : X → Type 0) (spell : X → List ℕ) (Wanted Accepts : X → Type 0) (bytes : List ℕ) where
  -- the pass accepts the parts that the bytes spell
  pub record IsPassed : Type 0 where
    pub parts : X
    pub spelled : IsTextOf Fits spell bytes parts
    pub wanted : Wanted parts
    pub accepted : Accepts parts

  -- the bytes spell parts of another input
  pub record IsUnwanted : Type 0 where
    pub parts : X
    pub spelled : IsTextOf Fits spell bytes parts
    pub unwanted : Wanted parts → ⊥

  module _ (Why : X → Fault → Type 0) where
    -- the pass does not accept the parts that the bytes spell, and this is why
    pub record IsUnpassed (fault : Fault) : Type 0 where
      pub parts : X
      pub spelled : IsTextOf Fits spell bytes parts
      pub wanted : Wanted parts
      pub refused : Accepts parts → ⊥
      pub why : Why parts fault

    -- what is told of the bytes by the pass of this number: the first of these that holds
    abbrev pub IsNotPassed : PassNumber → JudgeError → Type 0
    IsNotPassed at NoMemory = Unit {0}
    IsNotPassed at (Form fault) = fault ≢ form.NoMemory → HasNoParts Fits spell bytes fault
    IsNotPassed at Unchained = IsUnwanted
    IsNotPassed at (Refused pass fault) = (pass ≡ at) × IsUnpassed fault
    IsNotPassed at other = ⊥

-- The same of a pass from one language to another, whatever the input.
module _ {P A B C I O : Type 0} (from : language.Ghosts A I) (to : language.Ghosts B O) (by : pass.Ghosts P A B C I O) where
  abbrev Fits : Parts I O C → Type 0
  Fits = PartsFit from.fits to.fits by.cert_fits

  abbrev Accepts : Parts I O C → Type 0
  Accepts parts = by.accepts parts.input parts.output parts.certificate

  abbrev Any : Parts I O C → Type 0
  Any parts = Unit {0}

  abbrev pub IsPassedBy : List ℕ → Type 0
  IsPassedBy bytes = IsPassed Fits (text_of from to by) Any Accepts bytes

  abbrev pub IsNotPassedBy : (I → O → C → Fault → Type 0) → PassNumber → List ℕ → JudgeError → Type 0
  IsNotPassedBy tells at bytes e =
      IsNotPassed Fits (text_of from to by) Any Accepts bytes (λ parts fault. tells parts.input parts.output parts.certificate fault) at e
