-- What is told by an offer that does not stand, once its parts are read.
use Rattle.std.proofs.Common.{◌≡◌, ℕ, List, refl}
use Rattle.lang_base.specs.declared.fault.Fault.{Fault}
use Rattle.bundle_offers.specs.Standing.{FailsStep}
use Rattle.bundle_offers.specs.declared.fault.OfferFault.{OfferFault}
use Rattle.bundle_offers.specs.declared.fault.OfferFault.TheVariants as offer
use Rattle.bundle_offers.specs.declared.fault.PassNumber.{PassNumber}
use Rattle.cfarm_judge.specs.Passing.{IsNotPassed, IsTextOf, told_of}

module _ {X : Type 0} (Fits : X → Type 0) (text : X → List ℕ) (Wanted Accepts : X → Type 0) (bytes : List ℕ) (Why : X → Fault → Type 0) where
  pub not_passed : (at : PassNumber) (parts : X) (fault : OfferFault) → IsTextOf Fits text bytes parts
      → FailsStep at (Wanted parts) (Accepts parts) (Why parts) fault → IsNotPassed Fits text Wanted Accepts bytes Why at (told_of fault)
  not_passed at parts offer.NoMemory spelled fails = tt
  not_passed at parts (offer.Unchained pass) spelled fails = record { parts = parts; spelled = spelled; unwanted = fails.1 }
  not_passed at parts (offer.Refused pass fault) spelled fails =
      (fails.0, record { parts = parts; spelled = spelled; wanted = fails.1; refused = fails.2; why = fails.3 })

-- the same, where any input is wanted
pub fails_of_any : {A : Type 0} (at : PassNumber) (input : A) (Accepted : Type 0) (Why : Fault → Type 0) (fault : OfferFault)
    → FailsStep at (input ≡ input) Accepted Why fault → FailsStep at (Unit {0}) Accepted Why fault
fails_of_any at input Accepted Why offer.NoMemory fails = tt
fails_of_any at input Accepted Why (offer.Unchained pass) fails = absurd (fails.1 refl)
fails_of_any at input Accepted Why (offer.Refused pass fault) fails = (fails.0, tt, fails.2, fails.3)
