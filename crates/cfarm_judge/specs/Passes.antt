-- The four passes by their numbers: what their offers are of, how they are spelled, and which are accepted.
use Rattle.std.specs.Prelude.{◌≡◌, ℕ, List}
use Rattle.lang_base.specs.declared.fault.Fault.{Fault}
use Rattle.offers.specs.Text.{PartsFit}
use Rattle.rtl_language.specs.Function as rtl
use Rattle.ltl.specs.Function as ltl
use Rattle.linear_language.specs.Function as linear
use Rattle.rtl_passes_facts.specs.Certificates as facts
use Rattle.constprop_check_rules.specs.Rules.{propagation, IsPropagated}
use Rattle.cse_check_rules.specs.Rules.{elimination, IsEliminated}
use Rattle.alloc_check_proof.specs.Allocated.{IsAllocated}
use Rattle.alloc_check_proof.specs.Text as allocation
use Rattle.linearize_check_proof.specs.Rules.{IsLaidOut}
use Rattle.linearize_check.specs.OrderForm as order
use Rattle.bundle_offers.specs.Lent.{OfConstants, OfExpressions, OfAllocation, OfOrder}
use Rattle.bundle_offers.specs.Reasons.{WhyFirst, WhySecond, WhyThird, WhyFourth}
use Rattle.bundle_offers.specs.Texts.{first_text, second_text, third_text, fourth_text}
use Rattle.bundle_offers.specs.declared.fault.PassNumber.{PassNumber}
use Rattle.bundle_offers.specs.declared.fault.PassNumber.TheVariants.{First, Second, Third, Fourth}
use Rattle.cfarm_judge.specs.Passing.{IsNotPassed, IsPassed}
use Rattle.cfarm_judge.specs.declared.error.JudgeError.{JudgeError}

-- the first byte of a written offer
abbrev pub byte_of : PassNumber → ℕ
byte_of First = 17
byte_of Second = 18
byte_of Third = 19
byte_of Fourth = 4

-- the parts of an offer
abbrev pub PartsAt : PassNumber → Type 0
PartsAt First = OfConstants
PartsAt Second = OfExpressions
PartsAt Third = OfAllocation
PartsAt Fourth = OfOrder

-- each of them has a spelling
abbrev pub FitsAt : (pass : PassNumber) → PartsAt pass → Type 0
FitsAt First o = PartsFit rtl.IsFunction rtl.IsFunction (λ i p c. facts.CertFits propagation i c) o
FitsAt Second o = PartsFit rtl.IsFunction rtl.IsFunction (λ i p c. facts.CertFits elimination i c) o
FitsAt Third o = PartsFit rtl.IsFunction ltl.IsFunction allocation.CertFits o
FitsAt Fourth o = PartsFit ltl.IsFunction linear.IsFunction (λ i p c. order.CertFits i c) o

abbrev pub text_at : (pass : PassNumber) → PartsAt pass → List ℕ
text_at First o = first_text o
text_at Second o = second_text o
text_at Third o = third_text o
text_at Fourth o = fourth_text o

-- the input of an offer of pass 1 is the function
abbrev pub WantedAt : rtl.FunctionData → (pass : PassNumber) → PartsAt pass → Type 0
WantedAt f First o = o.input ≡ f
WantedAt f Second o = Unit {0}
WantedAt f Third o = Unit {0}
WantedAt f Fourth o = Unit {0}

abbrev pub AcceptsAt : (pass : PassNumber) → PartsAt pass → Type 0
AcceptsAt First o = IsPropagated o.input o.output o.certificate
AcceptsAt Second o = IsEliminated o.input o.output o.certificate
AcceptsAt Third o = IsAllocated o.input o.output o.certificate
AcceptsAt Fourth o = IsLaidOut o.input o.output o.certificate

abbrev pub WhyRefusedAt : (pass : PassNumber) → PartsAt pass → Fault → Type 0
WhyRefusedAt First o fault = WhyFirst o.input o.output o.certificate fault
WhyRefusedAt Second o fault = WhySecond o.input o.output o.certificate fault
WhyRefusedAt Third o fault = WhyThird o.input o.output o.certificate fault
WhyRefusedAt Fourth o fault = WhyFourth o.input o.output o.certificate fault

-- the pass of this number accepts the offer, of this function where it is the first
abbrev pub IsPassedAt : rtl.FunctionData → List ℕ → PassNumber → Type 0
IsPassedAt f bytes pass = IsPassed (FitsAt pass) (text_at pass) (WantedAt f pass) (AcceptsAt pass) bytes

-- what is told where it does not
abbrev pub IsNotPassedAt : rtl.FunctionData → List ℕ → PassNumber → JudgeError → Type 0
IsNotPassedAt f bytes pass e = IsNotPassed (FitsAt pass) (text_at pass) (WantedAt f pass) (AcceptsAt pass) bytes (WhyRefusedAt pass) pass e
