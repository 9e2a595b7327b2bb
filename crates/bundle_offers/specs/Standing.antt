-- Whether the four offers of a function stand, and which is the first that does not: each goes on from the one before it, the
-- first from the function, and its pass accepts it.
use Rattle.std.specs.Prelude.{◌≡◌, ℕ, zero, suc, List, [], ◌∷◌, length, slice_get, Some, Result, Ok, Err}
use Rattle.lang_base.specs.declared.fault.Fault.{Fault}
use Rattle.lang_base.specs.declared.program.Named.{Named}
use Rattle.rtl_language.specs.Function.{FunctionData}
use Rattle.constprop_check_rules.specs.Rules.{IsPropagated}
use Rattle.cse_check_rules.specs.Rules.{IsEliminated}
use Rattle.bundle_reading.specs.Allocated.{IsAllocated}
use Rattle.linearize_check_proof.specs.Rules.{IsLaidOut}
use Rattle.bundle_reading.specs.Offers.{Offers}
use Rattle.offers.specs.declared.parts.Parts.{Parts}
use Rattle.bundle_reading.specs.declared.four.Four.{Four}
use Rattle.bundle_offers.specs.declared.fault.PassNumber.{PassNumber}
use Rattle.bundle_offers.specs.declared.fault.PassNumber.TheVariants.{First, Second, Third, Fourth}
use Rattle.bundle_offers.specs.declared.fault.OfferFault.{OfferFault}
use Rattle.bundle_offers.specs.declared.fault.OfferFault.TheVariants.{NoMemory, Unchained, Refused}
use Rattle.bundle_reading.specs.Read.{offers_of}
use Rattle.bundle_offers.specs.Reasons.{WhyFirst, WhySecond, WhyThird, WhyFourth}

abbrev pub number_of : PassNumber → ℕ
number_of First = 1
number_of Second = 2
number_of Third = 3
number_of Fourth = 4

-- what is told of an offer of one pass that does not stand
abbrev pub FailsStep : PassNumber → Type 0 → Type 0 → (Fault → Type 0) → OfferFault → Type 0
FailsStep at Chained Accepted Why NoMemory = Unit {0}
FailsStep at Chained Accepted Why (Unchained pass) = (pass ≡ at) × (Chained → ⊥)
FailsStep at Chained Accepted Why (Refused pass fault) = (pass ≡ at) × Chained × (Accepted → ⊥) × Why fault

-- the same of an offer that chains
abbrev pub FailsCheck : PassNumber → Type 0 → (Fault → Type 0) → OfferFault → Type 0
FailsCheck at Accepted Why NoMemory = Unit {0}
FailsCheck at Accepted Why (Unchained pass) = ⊥
FailsCheck at Accepted Why (Refused pass fault) = (pass ≡ at) × (Accepted → ⊥) × Why fault

-- the same of the parts of an offer of a pass that accepts so and tells so why it does not
abbrev pub FailsItsCheck : {I O C : Type 0} → PassNumber → (I → O → C → Type 0) → (I → O → C → Fault → Type 0) → Parts I O C → OfferFault → Type 0
FailsItsCheck at accepts tells parts = FailsCheck at (accepts parts.input parts.output parts.certificate) (tells parts.input parts.output parts.certificate)

-- and of those that have to go on from this
abbrev pub FailsItsStep : {I O C : Type 0} → PassNumber → (I → O → C → Type 0) → (I → O → C → Fault → Type 0) → I → Parts I O C → OfferFault → Type 0
FailsItsStep at accepts tells before parts =
    FailsStep at (parts.input ≡ before) (accepts parts.input parts.output parts.certificate) (tells parts.input parts.output parts.certificate)

abbrev pub FirstChained : FunctionData → Offers → Type 0
FirstChained f o = o.constants.input ≡ f

abbrev pub SecondChained : Offers → Type 0
SecondChained o = o.expressions.input ≡ o.constants.output

abbrev pub ThirdChained : Offers → Type 0
ThirdChained o = o.allocation.input ≡ o.expressions.output

abbrev pub FourthChained : Offers → Type 0
FourthChained o = o.order.input ≡ o.allocation.output

abbrev pub FirstAccepted : Offers → Type 0
FirstAccepted o = IsPropagated o.constants.input o.constants.output o.constants.certificate

abbrev pub SecondAccepted : Offers → Type 0
SecondAccepted o = IsEliminated o.expressions.input o.expressions.output o.expressions.certificate

abbrev pub ThirdAccepted : Offers → Type 0
ThirdAccepted o = IsAllocated o.allocation.input o.allocation.output o.allocation.certificate

abbrev pub FourthAccepted : Offers → Type 0
FourthAccepted o = IsLaidOut o.order.input o.order.output o.order.certificate

abbrev pub FirstStands : FunctionData → Offers → Type 0
FirstStands f o = FirstChained f o × FirstAccepted o

abbrev pub SecondStands : Offers → Type 0
SecondStands o = SecondChained o × SecondAccepted o

abbrev pub ThirdStands : Offers → Type 0
ThirdStands o = ThirdChained o × ThirdAccepted o

abbrev pub FourthStands : Offers → Type 0
FourthStands o = FourthChained o × FourthAccepted o

-- all four stand
pub record Stand (f : FunctionData) (o : Offers) : Type 0 where
  pub first : FirstStands f o
  pub second : SecondStands o
  pub third : ThirdStands o
  pub fourth : FourthStands o

-- those before this pass's stand
abbrev pub StandBefore : FunctionData → Offers → PassNumber → Type 0
StandBefore f o First = Unit {0}
StandBefore f o Second = FirstStands f o
StandBefore f o Third = FirstStands f o × SecondStands o
StandBefore f o Fourth = FirstStands f o × SecondStands o × ThirdStands o

abbrev pub ChainedAt : FunctionData → Offers → PassNumber → Type 0
ChainedAt f o First = FirstChained f o
ChainedAt f o Second = SecondChained o
ChainedAt f o Third = ThirdChained o
ChainedAt f o Fourth = FourthChained o

abbrev pub AcceptedAt : Offers → PassNumber → Type 0
AcceptedAt o First = FirstAccepted o
AcceptedAt o Second = SecondAccepted o
AcceptedAt o Third = ThirdAccepted o
AcceptedAt o Fourth = FourthAccepted o

abbrev pub WhyAt : Offers → PassNumber → Fault → Type 0
WhyAt o First fault = WhyFirst o.constants.input o.constants.output o.constants.certificate fault
WhyAt o Second fault = WhySecond o.expressions.input o.expressions.output o.expressions.certificate fault
WhyAt o Third fault = WhyThird o.allocation.input o.allocation.output o.allocation.certificate fault
WhyAt o Fourth fault = WhyFourth o.order.input o.order.output o.order.certificate fault

-- this is the first fault: the offers before this pass's stand, and its own does not, the chain first
abbrev pub Fails : FunctionData → Offers → OfferFault → Type 0
Fails f o NoMemory = Unit {0}
Fails f o (Unchained pass) = StandBefore f o pass × (ChainedAt f o pass → ⊥)
Fails f o (Refused pass fault) = StandBefore f o pass × ChainedAt f o pass × (AcceptedAt o pass → ⊥) × WhyAt o pass fault

-- what is answered
abbrev pub Judged : FunctionData → Offers → Result (Unit {0}) OfferFault → Type 0
Judged f o (Ok done) = Stand f o
Judged f o (Err fault) = Fails f o fault

-- what a pass answers of the parts of an offer
abbrev pub IsAccepted : {I O C : Type 0} → PassNumber → (I → O → C → Type 0) → (I → O → C → Fault → Type 0) → Parts I O C → Result (Unit {0}) OfferFault → Type 0
IsAccepted at accepts tells parts (Ok done) = accepts parts.input parts.output parts.certificate
IsAccepted at accepts tells parts (Err fault) = FailsItsCheck at accepts tells parts fault

-- what is answered of those that have to go on from this
abbrev pub IsStep : {I O C : Type 0} → PassNumber → (I → O → C → Type 0) → (I → O → C → Fault → Type 0) → I → Parts I O C → Result (Unit {0}) OfferFault → Type 0
IsStep at accepts tells before parts (Ok done) = (parts.input ≡ before) × accepts parts.input parts.output parts.certificate
IsStep at accepts tells before parts (Err fault) = FailsItsStep at accepts tells before parts fault

-- the first fault of four answers
abbrev pub first_of : Result (Unit {0}) OfferFault → Result (Unit {0}) OfferFault → Result (Unit {0}) OfferFault → Result (Unit {0}) OfferFault → Result (Unit {0}) OfferFault
first_of (Err fault) second third fourth = Err fault
first_of (Ok done) (Err fault) third fourth = Err fault
first_of (Ok done) (Ok done') (Err fault) fourth = Err fault
first_of (Ok done) (Ok done') (Ok done'') fourth = fourth

-- function by function, and no more offers than functions
abbrev pub AllStand : List (Named FunctionData) → List Offers → Type 0
AllStand [] [] = Unit {0}
AllStand [] (o ∷ offers) = ⊥
AllStand (f ∷ functions) [] = ⊥
AllStand (f ∷ functions) (o ∷ offers) = Stand f.function o × AllStand functions offers

-- this function's fault is the first: those of the functions before it stand
abbrev pub IsFirstFault : List (Named FunctionData) → List Offers → ℕ → OfferFault → Type 0
IsFirstFault [] offers i fault = ⊥
IsFirstFault (f ∷ functions) [] i fault = ⊥
IsFirstFault (f ∷ functions) (o ∷ offers) zero fault = Fails f.function o fault
IsFirstFault (f ∷ functions) (o ∷ offers) (suc i) fault = Stand f.function o × IsFirstFault functions offers i fault

-- the answer to offers by themselves: the first goes on from its own input
abbrev pub IsAlone : Four → Result (Unit {0}) OfferFault → Type 0
IsAlone four told = Judged four.constants.input (offers_of four) told

-- the same of those of this number
abbrev pub IsAloneAt : List Four → ℕ → Result (Unit {0}) OfferFault → Type 0
IsAloneAt fours i told = (four : Four) → slice_get fours i ≡ Some four → IsAlone four told

-- an answer to each function's offers by themselves, in order
pub record AreAlone (fours : List Four) (alone : List (Result (Unit {0}) OfferFault)) : Type 0 where
  pub count : length alone ≡ length fours
  pub each : (i : ℕ) (told : Result (Unit {0}) OfferFault) → slice_get alone i ≡ Some told → IsAloneAt fours i told

-- the answer to the function of this number
abbrev pub IsJudgedAt : List (Named FunctionData) → List Four → ℕ → Result (Unit {0}) OfferFault → Type 0
IsJudgedAt functions fours i told =
    (f : Named FunctionData) (four : Four) → slice_get functions i ≡ Some f → slice_get fours i ≡ Some four → Judged f.function (offers_of four) told

-- an answer for each function's offers, in order
pub record AreJudged (functions : List (Named FunctionData)) (fours : List Four) (judged : List (Result (Unit {0}) OfferFault)) : Type 0 where
  pub count : length judged ≡ length fours
  pub each : (i : ℕ) (told : Result (Unit {0}) OfferFault) → slice_get judged i ≡ Some told → IsJudgedAt functions fours i told
