-- Offers that stand, function by function, and the first that does not.
use Rattle.std.proofs.Common.{◌≡◌, ℕ, zero, suc, ◌<◌, List, [], ◌∷◌, length, take, get_or, All, Some, Result, Ok, Err, refl, sym, ap, ◌∙◌, subst, arith}
use Rattle.std.specs.Prelude.{slice_get, OnOk, IfOk, IfErr}
use Rattle.std.specs.List.{AllByRecursion}
use Rattle.std.proofs.lemmas.List.Elements.{All-nil, All-cons}
use Rattle.lang_base.specs.declared.fault.Fault.{Fault}
use Rattle.lang_base.specs.declared.program.Named.{Named}
use Rattle.lang_base.specs.declared.errors.FormError.{FormError}
use Rattle.rtl_language.specs.Function.{FunctionData}
use Rattle.constprop_check_rules.specs.Rules.{IsPropagated}
use Rattle.cse_check_rules.specs.Rules.{IsEliminated}
use Rattle.bundle_reading.specs.Allocated.{IsAllocated}
use Rattle.linearize_check_proof.specs.Rules.{IsLaidOut}
use Rattle.offers.specs.declared.parts.Parts.{Parts}
use Rattle.bundle_reading.specs.Offers.{Offers}
use Rattle.bundle_reading.specs.Accepted.{AreAccepted}
use Rattle.bundle_reading.specs.Chains.{names_of}
use Rattle.bundle_reading.specs.Offered.{AllGoOn, GoOnFrom, ends_of}
use Rattle.bundle_reading.specs.declared.four.Four.{Four}
use Rattle.bundle_offers.specs.declared.fault.PassNumber.{PassNumber}
use Rattle.bundle_offers.specs.declared.fault.OfferFault.{OfferFault}
use Rattle.bundle_offers.specs.declared.fault.OfferFault.TheVariants.{NoMemory, Unchained, Refused}
use Rattle.bundle_offers.specs.declared.fault.PassNumber.TheVariants.{First, Second, Third, Fourth}
use Rattle.bundle_reading.specs.Read.{AreGathered, offers_of, offers_in}
use Rattle.bundle_reading.proofs.Places.{got}
use Rattle.bundle_offers.specs.Reasons.{WhyFirst, WhySecond, WhyThird, WhyFourth}
use Rattle.bundle_offers.specs.Found.{IsAnswered, IsToldAlone}
use Rattle.bundle_offers.specs.Standing.{AcceptedAt, AllStand, AreAlone, ChainedAt, Fails, FailsCheck, FailsItsCheck, FailsStep, IsAccepted, IsAlone, IsFirstFault, IsJudgedAt, IsStep, Judged, Stand, StandBefore, WhyAt, first_of}

-- an offer that chains and is not accepted does not stand
pub fails_step : (at : PassNumber) (Chained Accepted : Type 0) (Why : Fault → Type 0) (fault : OfferFault) → Chained → FailsCheck at Accepted Why fault → FailsStep at Chained Accepted Why fault
fails_step at Chained Accepted Why NoMemory chained told = tt
fails_step at Chained Accepted Why (Unchained pass) chained told = absurd told
fails_step at Chained Accepted Why (Refused pass fault) chained told = (told.0, chained, told.1, told.2)

-- an offer that does not stand behind those that do
pub fails_at : (f : FunctionData) (o : Offers) (at : PassNumber) (fault : OfferFault) → StandBefore f o at → FailsStep at (ChainedAt f o at) (AcceptedAt o at) (WhyAt o at) fault → Fails f o fault
fails_at f o at NoMemory before told = tt
fails_at f o at (Unchained pass) before told =
    subst (λ k. Fails f o (Unchained k)) (sym told.0) (before, told.1)
fails_at f o at (Refused pass fault) before told =
    subst (λ k. Fails f o (Refused k fault)) (sym told.0) (before, told.1, told.2, told.3)

-- of four answers the first fault is that of the offers
pub judged_of : (f : FunctionData) (o : Offers) (first second third fourth : Result (Unit {0}) OfferFault)
    → IsStep First IsPropagated WhyFirst f o.constants first → IsStep Second IsEliminated WhySecond o.constants.output o.expressions second
    → IsStep Third IsAllocated WhyThird o.expressions.output o.allocation third → IsStep Fourth IsLaidOut WhyFourth o.allocation.output o.order fourth
    → Judged f o (first_of first second third fourth)
judged_of f o (Err fault) second third fourth one two three four = fails_at f o First fault tt one
judged_of f o (Ok done) (Err fault) third fourth one two three four = fails_at f o Second fault one two
judged_of f o (Ok done) (Ok done') (Err fault) fourth one two three four = fails_at f o Third fault (one, two) three
judged_of f o (Ok done) (Ok done') (Ok done'') (Err fault) one two three four = fails_at f o Fourth fault (one, two, three) four
judged_of f o (Ok done) (Ok done') (Ok done'') (Ok last) one two three four = record { first = one; second = two; third = three; fourth = four }

module _ {I O C : Type 0} (at : PassNumber) (accepts : I → O → C → Type 0) (tells : I → O → C → Fault → Type 0) where
  -- what a pass answers of an offer that goes on from this is what is answered of the offer
  pub step_of : (before : I) (parts : Parts I O C) (told : Result (Unit {0}) OfferFault) → parts.input ≡ before → IsAccepted at accepts tells parts told → IsStep at accepts tells before parts told
  step_of before parts (Ok done) chained is = (chained, is)
  step_of before parts (Err fault) chained is =
      fails_step at (parts.input ≡ before) (accepts parts.input parts.output parts.certificate) (tells parts.input parts.output parts.certificate) fault chained is

  -- of parts that were found, where their text spells some
  pub accepted_of : (parts : Parts I O C) (told : Result (Unit {0}) OfferFault) → OnOk told (accepts parts.input parts.output parts.certificate)
      → IfErr told (FailsItsCheck at accepts tells parts) → IsAccepted at accepts tells parts told
  accepted_of parts (Ok done) accepted refused = accepted
  accepted_of parts (Err fault) accepted refused = refused

  pub accepted_if : (found : Result (Parts I O C) FormError) (told : Result (Unit {0}) OfferFault) (parts : Parts I O C)
      → IsAnswered at accepts tells (found, told) → found ≡ Ok parts → IsAccepted at accepts tells parts told
  accepted_if found told parts is e = subst (λ r. IfOk r (λ p. IsAccepted at accepts tells p told)) e is

-- the answers to all offers by themselves
pub all_alone : (found : List (Result (Four × Result (Unit {0}) OfferFault) FormError)) (fours : List Four) (told : List (Result (Unit {0}) OfferFault))
    → ((i : ℕ) (one : Result (Four × Result (Unit {0}) OfferFault) FormError) → slice_get found i ≡ Some one → IsToldAlone one)
    → AreGathered found fours told → AreAlone fours told
all_alone found fours told each are = record { count = are.count; each = λ i t e four e'. each i (Ok (four, t)) (are.each i four t e' e) }

-- the answer to the function of a number, by what stands there
pub judged_at : (fs : List (Named FunctionData)) (fours : List Four) (n : ℕ) (f : Named FunctionData) (four : Four) (told : Result (Unit {0}) OfferFault)
    → f ≡ get_or fs n f → four ≡ get_or fours n four → Judged f.function (offers_of four) told → IsJudgedAt fs fours n told
judged_at fs fours n f four told at at' is g other e e' =
    let same : f ≡ g = at ∙ (got fs n g f e).1 in
    let same' : four ≡ other = at' ∙ (got fours n other four e').1 in
    subst (λ x. Judged g.function (offers_of x) told) same' (subst (λ x. Judged x.function (offers_of four) told) same is)

-- what stands at a place that is there
pub placed : (fours : List Four) (n : ℕ) (four : Four) → four ≡ get_or fours n four → n < length fours → slice_get fours n ≡ Some four
placed [] n four is below = absurd (omega (arith, below))
placed (x ∷ fours) zero four is below = ap (λ y. Some y) (sym is)
placed (x ∷ fours) (suc n) four is below = placed fours n four is (omega (arith, below))

-- the answer to offers by themselves is one to the function that the first goes on from, and to another there is a fault
pub judged_from : (f : FunctionData) (four : Four) (told : Result (Unit {0}) OfferFault) → four.constants.input ≡ f → IsAlone four told
    → Judged f (offers_of four) told
judged_from f four told same is = subst (λ h. Judged h (offers_of four) told) same is

-- the same of what was read
abbrev pub FoursStand : List (Named FunctionData) → List Four → Type 0
FoursStand [] [] = Unit {0}
FoursStand [] (o ∷ fours) = ⊥
FoursStand (f ∷ functions) [] = ⊥
FoursStand (f ∷ functions) (o ∷ fours) = Stand f.function (offers_of o) × FoursStand functions fours

pub stand_next : (fs : List (Named FunctionData)) (fours : List Four) (n : ℕ) → n < length fs → n < length fours
    → ((f : Named FunctionData) (four : Four) → slice_get fs n ≡ Some f → slice_get fours n ≡ Some four → Stand f.function (offers_of four))
    → FoursStand (take n fs) (take n fours) → FoursStand (take (suc n) fs) (take (suc n) fours)
stand_next [] fours n below below' one before = absurd (omega (arith, below))
stand_next (f ∷ fs) [] n below below' one before = absurd (omega (arith, below'))
stand_next (f ∷ fs) (x ∷ fours) zero below below' one before = (one f x refl refl, tt)
stand_next (f ∷ fs) (x ∷ fours) (suc n) below below' one before =
    (before.0, stand_next fs fours n (omega (arith, below)) (omega (arith, below')) (λ g y e e'. one g y e e') before.1)

pub all_stand : (fs : List (Named FunctionData)) (fours : List Four) → FoursStand fs fours → AllStand fs (offers_in fours)
all_stand [] [] are = tt
all_stand [] (x ∷ fours) are = absurd are
all_stand (f ∷ fs) [] are = absurd are
all_stand (f ∷ fs) (x ∷ fours) are = (are.0, all_stand fs fours are.1)

pub fault_at : (fs : List (Named FunctionData)) (fours : List Four) (n : ℕ) (fault : OfferFault) → n < length fs → n < length fours
    → ((f : Named FunctionData) (four : Four) → slice_get fs n ≡ Some f → slice_get fours n ≡ Some four → Fails f.function (offers_of four) fault)
    → FoursStand (take n fs) (take n fours) → IsFirstFault fs (offers_in fours) n fault
fault_at [] fours n fault below below' one before = absurd (omega (arith, below))
fault_at (f ∷ fs) [] n fault below below' one before = absurd (omega (arith, below'))
fault_at (f ∷ fs) (x ∷ fours) zero fault below below' one before = one f x refl refl
fault_at (f ∷ fs) (x ∷ fours) (suc n) fault below below' one before =
    (before.0, fault_at fs fours n fault (omega (arith, below)) (omega (arith, below')) (λ g y e e'. one g y e e') before.1)

-- offers that stand chain, and are accepted
pub go_on : (fs : List (Named FunctionData)) (offers : List Offers) → AllStand fs offers → AllGoOn fs offers
go_on [] [] are = tt
go_on [] (o ∷ offers) are = absurd are
go_on (f ∷ fs) [] are = absurd are
go_on (f ∷ fs) (o ∷ offers) are =
    (record { constants = are.0.first.0; expressions = are.0.second.0; allocation = are.0.third.0; order = are.0.fourth.0 }, go_on fs offers are.1)

are_accepted : (f : FunctionData) (o : Offers) → Stand f o → AreAccepted o
are_accepted f o is = record { constants = is.first.1; expressions = is.second.1; allocation = is.third.1; order = is.fourth.1 }

pub accepted : (fs : List (Named FunctionData)) (offers : List Offers) → AllStand fs offers → AllByRecursion AreAccepted offers
accepted [] [] are = tt
accepted [] (o ∷ offers) are = absurd are
accepted (f ∷ fs) [] are = absurd are
accepted (f ∷ fs) (o ∷ offers) are = (are_accepted f.function o are.0, accepted fs offers are.1)

pub all_accepted : (offers : List Offers) → AllByRecursion AreAccepted offers → All AreAccepted offers
all_accepted [] are = All-nil _
all_accepted (o ∷ offers) are = All-cons AreAccepted o offers are.0 (all_accepted offers are.1)

-- ---- offers that chain and are accepted stand, and none of them has a fault

one_stands : (f : FunctionData) (o : Offers) → GoOnFrom f o → AreAccepted o → Stand f o
one_stands f o on are = record {
  first = (on.constants, are.constants);
  second = (on.expressions, are.expressions);
  third = (on.allocation, are.allocation);
  fourth = (on.order, are.order);
}

pub they_stand : (fs : List (Named FunctionData)) (offers : List Offers) → AllGoOn fs offers → AllByRecursion AreAccepted offers → AllStand fs offers
they_stand [] [] on are = tt
they_stand [] (o ∷ offers) on are = absurd on
they_stand (f ∷ fs) [] on are = absurd on
they_stand (f ∷ fs) (o ∷ offers) on are = (one_stands f.function o on.0 are.0, they_stand fs offers on.1 are.1)

no_fault_of : (f : FunctionData) (o : Offers) (fault : OfferFault) → Stand f o → Fails f o fault → fault ≡ NoMemory
no_fault_of f o NoMemory stand is = refl
no_fault_of f o (Unchained First) stand is = absurd (is.1 stand.first.0)
no_fault_of f o (Unchained Second) stand is = absurd (is.1 stand.second.0)
no_fault_of f o (Unchained Third) stand is = absurd (is.1 stand.third.0)
no_fault_of f o (Unchained Fourth) stand is = absurd (is.1 stand.fourth.0)
no_fault_of f o (Refused First fault) stand is = absurd (is.2 stand.first.1)
no_fault_of f o (Refused Second fault) stand is = absurd (is.2 stand.second.1)
no_fault_of f o (Refused Third fault) stand is = absurd (is.2 stand.third.1)
no_fault_of f o (Refused Fourth fault) stand is = absurd (is.2 stand.fourth.1)

pub no_fault : (fs : List (Named FunctionData)) (offers : List Offers) (i : ℕ) (fault : OfferFault) → AllStand fs offers → IsFirstFault fs offers i fault → fault ≡ NoMemory
no_fault [] offers i fault stand is = absurd is
no_fault (f ∷ fs) [] i fault stand is = absurd is
no_fault (f ∷ fs) (o ∷ offers) zero fault stand is = no_fault_of f.function o fault stand.0 is
no_fault (f ∷ fs) (o ∷ offers) (suc i) fault stand is = no_fault fs offers i fault stand.1 is.1

-- a function whose offers are the first that do not stand is one of them
pub fault_below : (functions : List (Named FunctionData)) (offers : List Offers) (i : ℕ) (fault : OfferFault) → IsFirstFault functions offers i fault → i < length functions
fault_below [] offers i fault is = absurd is
fault_below (f ∷ functions) [] i fault is = absurd is
fault_below (f ∷ functions) (o ∷ offers) zero fault is = omega arith
fault_below (f ∷ functions) (o ∷ offers) (suc i) fault is = let less = fault_below functions offers i fault is.1 in omega (arith, less)

-- offers that chain have the names and the number of the functions
pub ends_names : (fs : List (Named FunctionData)) (offers : List Offers) → AllGoOn fs offers → names_of (ends_of fs offers) ≡ names_of fs
ends_names [] [] on = refl
ends_names [] (o ∷ offers) on = absurd on
ends_names (f ∷ fs) [] on = absurd on
ends_names (f ∷ fs) (o ∷ offers) on = ap (λ names. f.name ∷ names) (ends_names fs offers on.1)

pub as_many : (fs : List (Named FunctionData)) (offers : List Offers) → AllGoOn fs offers → length offers ≡ length fs
as_many [] [] on = refl
as_many [] (o ∷ offers) on = absurd on
as_many (f ∷ fs) [] on = absurd on
as_many (f ∷ fs) (o ∷ offers) on = ap suc (as_many fs offers on.1)
