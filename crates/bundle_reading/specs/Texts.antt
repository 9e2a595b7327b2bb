-- The written offers of a function, and the bundles of such.
use Rattle.std.specs.Prelude.{◌≡◌, ◌≢◌, ℕ, List, map}
use Rattle.std.specs.List.{AllByRecursion}
use Rattle.offers.specs.Text.{spelling_of, PartsFit}
use Rattle.rtl_language.specs.Function as rtl
use Rattle.rtl_language.specs.Spelling as rtl_spelling
use Rattle.ltl.specs.Function as ltl
use Rattle.ltl.specs.Spelling as ltl_spelling
use Rattle.linear_language.specs.Function as linear
use Rattle.linear_language.specs.Spelling as linear_spelling
use Rattle.constprop_check.specs.Certificates as facts
use Rattle.constprop_check.specs.RowForm.{rows_text}
use Rattle.constprop_check_rules.specs.Rules.{propagation}
use Rattle.constprop_check.specs.FactForm.{fact_text}
use Rattle.chains.specs.Rules.{elimination}
use Rattle.chains.specs.Order.{equation_text}
use Rattle.chains.specs.Text as allocation
use Rattle.chains.specs.OrderForm as order
use Rattle.chains.specs.declared.offering.Offers.{Offers}
use Rattle.chains.specs.Lent.{OfConstants, OfExpressions, OfAllocation, OfOrder}
use Rattle.bundle_form.specs.declared.bundle.Texts.{Texts}
use Rattle.bundle_form.specs.declared.bundle.Bundle.{Bundle}
use Rattle.bundle_form.specs.Form.{IsBundle, bundle_text}

-- the text of an offer of each pass: the number of its form, the input, the output, the certificate
abbrev pub first_text : OfConstants → List ℕ
first_text o = spelling_of 17 rtl_spelling.spelling rtl_spelling.spelling (λ i p c. rows_text fact_text c) o

abbrev pub second_text : OfExpressions → List ℕ
second_text o = spelling_of 18 rtl_spelling.spelling rtl_spelling.spelling (λ i p c. rows_text equation_text c) o

abbrev pub third_text : OfAllocation → List ℕ
third_text o = spelling_of 19 rtl_spelling.spelling ltl_spelling.spelling (λ i p c. allocation.cert_text c) o

abbrev pub fourth_text : OfOrder → List ℕ
fourth_text o = spelling_of 4 ltl_spelling.spelling linear_spelling.spelling (λ i p c. order.cert_text c) o

abbrev pub texts_of : Offers → Texts
texts_of o = record {
  constants = first_text o.constants;
  expressions = second_text o.expressions;
  allocation = third_text o.allocation;
  order = fourth_text o.order;
}

-- each part of an offer has a spelling
abbrev pub FirstFits : OfConstants → Type 0
FirstFits o = PartsFit rtl.IsFunction rtl.IsFunction (λ i p c. facts.CertFits propagation i c) o

abbrev pub SecondFits : OfExpressions → Type 0
SecondFits o = PartsFit rtl.IsFunction rtl.IsFunction (λ i p c. facts.CertFits elimination i c) o

abbrev pub ThirdFits : OfAllocation → Type 0
ThirdFits o = PartsFit rtl.IsFunction ltl.IsFunction allocation.CertFits o

abbrev pub FourthFits : OfOrder → Type 0
FourthFits o = PartsFit ltl.IsFunction linear.IsFunction (λ i p c. order.CertFits i c) o

-- each part of each offer has one
pub record OffersFit (o : Offers) : Type 0 where
  pub constants : FirstFits o.constants
  pub expressions : SecondFits o.expressions
  pub allocation : ThirdFits o.allocation
  pub order : FourthFits o.order

-- the bundle of a digest and of each function's offers
abbrev pub bundle_with : List ℕ → List Offers → Bundle
bundle_with digest offers = record { digest = digest; functions = map texts_of offers }

-- all of the bytes are the text of that bundle
pub record IsBundleOf (bytes : List ℕ) (digest : List ℕ) (offers : List Offers) : Type 0 where
  pub form : IsBundle (bundle_with digest offers)
  pub fit : AllByRecursion OffersFit offers
  pub text : bytes ≡ bundle_text (bundle_with digest offers)

-- ---- what is no such text

abbrev pub HasNoOffers : Texts → Type 0
HasNoOffers t = (o : Offers) → OffersFit o → t ≢ texts_of o

abbrev pub HaveNoOffers : List Texts → Type 0
HaveNoOffers ts = (offers : List Offers) → AllByRecursion OffersFit offers → ts ≢ map texts_of offers

abbrev pub HasNoBundle : List ℕ → Type 0
HasNoBundle bytes = (digest : List ℕ) (offers : List Offers) → IsBundleOf bytes digest offers → ⊥

-- bytes are those of one bundle
abbrev pub HasOneBundle : Type 0
HasOneBundle =
    (bytes digest other : List ℕ) (offers others : List Offers) → IsBundleOf bytes digest offers → IsBundleOf bytes other others → (digest ≡ other) × (offers ≡ others)
