-- What is found of a function's texts: the parts that they spell, and whether these stand by themselves.
use Rattle.std.specs.Prelude.{ℕ, List, Result, IfOk}
use Rattle.lang_base.specs.declared.errors.FormError.{FormError}
use Rattle.lang_base.specs.declared.fault.Fault.{Fault}
use Rattle.constprop_check_rules.specs.Rules.{IsPropagated}
use Rattle.cse_check_rules.specs.Rules.{IsEliminated}
use Rattle.bundle_reading.specs.Allocated.{IsAllocated}
use Rattle.linearize_check_proof.specs.Rules.{IsLaidOut}
use Rattle.offers.specs.declared.parts.Parts.{Parts}
use Rattle.bundle_form.specs.declared.bundle.Texts.{Texts}
use Rattle.bundle_reading.specs.Lent.{OfConstants, OfExpressions, OfAllocation, OfOrder}
use Rattle.bundle_reading.specs.Read as read
use Rattle.bundle_reading.specs.Texts.{FirstFits, FourthFits, SecondFits, ThirdFits, first_text, fourth_text, second_text, third_text}
use Rattle.bundle_reading.specs.declared.four.Four.{Four}
use Rattle.bundle_offers.specs.declared.fault.PassNumber.{PassNumber}
use Rattle.bundle_offers.specs.declared.fault.PassNumber.TheVariants.{First, Second, Third, Fourth}
use Rattle.bundle_offers.specs.declared.fault.OfferFault.{OfferFault}
use Rattle.bundle_offers.specs.Reasons.{WhyFirst, WhySecond, WhyThird, WhyFourth}
use Rattle.bundle_offers.specs.Standing.{IsAccepted, IsAlone}

-- the answer of a pass to the parts that were found, if they were
abbrev pub IsAnswered : {I O C : Type 0} → PassNumber → (I → O → C → Type 0) → (I → O → C → Fault → Type 0)
    → Result (Parts I O C) FormError × Result (Unit {0}) OfferFault → Type 0
IsAnswered at accepts tells found = IfOk found.0 (λ parts. IsAccepted at accepts tells parts found.1)

-- ---- what is found of the text for one pass

abbrev pub IsFirst : List ℕ → Result OfConstants FormError × Result (Unit {0}) OfferFault → Type 0
IsFirst text found = read.IsText FirstFits first_text text found.0 × IsAnswered First IsPropagated WhyFirst found

abbrev pub IsSecond : List ℕ → Result OfExpressions FormError × Result (Unit {0}) OfferFault → Type 0
IsSecond text found = read.IsText SecondFits second_text text found.0 × IsAnswered Second IsEliminated WhySecond found

abbrev pub IsThird : List ℕ → Result OfAllocation FormError × Result (Unit {0}) OfferFault → Type 0
IsThird text found = read.IsText ThirdFits third_text text found.0 × IsAnswered Third IsAllocated WhyThird found

abbrev pub IsFourth : List ℕ → Result OfOrder FormError × Result (Unit {0}) OfferFault → Type 0
IsFourth text found = read.IsText FourthFits fourth_text text found.0 × IsAnswered Fourth IsLaidOut WhyFourth found

-- of those for the first two passes, and for the last two
abbrev pub AreFront : List ℕ → List ℕ → (Result OfConstants FormError × Result (Unit {0}) OfferFault) × (Result OfExpressions FormError × Result (Unit {0}) OfferFault) → Type 0
AreFront first second found = IsFirst first found.0 × IsSecond second found.1

abbrev pub AreBack : List ℕ → List ℕ → (Result OfAllocation FormError × Result (Unit {0}) OfferFault) × (Result OfOrder FormError × Result (Unit {0}) OfferFault) → Type 0
AreBack third fourth found = IsThird third found.0 × IsFourth fourth found.1

-- ---- what is found of all four: the parts and the answer to them by themselves, or that the texts spell none

-- these are the answers of the four passes
abbrev pub AreTold : Four → Result (Unit {0}) OfferFault → Result (Unit {0}) OfferFault → Result (Unit {0}) OfferFault → Result (Unit {0}) OfferFault → Type 0
AreTold four first second third fourth =
    IsAccepted First IsPropagated WhyFirst four.constants first × IsAccepted Second IsEliminated WhySecond four.expressions second
    × IsAccepted Third IsAllocated WhyThird four.allocation third × IsAccepted Fourth IsLaidOut WhyFourth four.order fourth

abbrev pub IsToldAlone : Result (Four × Result (Unit {0}) OfferFault) FormError → Type 0
IsToldAlone found = IfOk found (λ both. IsAlone both.0 both.1)

abbrev pub IsFound : Texts → Result (Four × Result (Unit {0}) OfferFault) FormError → Type 0
IsFound t found = read.IsFound t (read.four_in found) × IsToldAlone found

-- the same of the function of this number
abbrev pub IsFoundAt : List Texts → ℕ → Result (Four × Result (Unit {0}) OfferFault) FormError → Type 0
IsFoundAt ts i found = read.IsFoundAt ts i (read.four_in found) × IsToldAlone found

-- what is found of all four, by what is found of the first two and of the last two
abbrev pub IsJoined : (Result OfConstants FormError × Result (Unit {0}) OfferFault) × (Result OfExpressions FormError × Result (Unit {0}) OfferFault)
    → (Result OfAllocation FormError × Result (Unit {0}) OfferFault) × (Result OfOrder FormError × Result (Unit {0}) OfferFault)
    → Result (Four × Result (Unit {0}) OfferFault) FormError → Type 0
IsJoined front back found = (t : Texts) → AreFront t.constants t.expressions front → AreBack t.allocation t.order back → IsFound t found
