-- The text of a file that is a written offer of a pass.
use Rattle.std.specs.Prelude.{◌≡◌, ◌≢◌, ℕ, List, slice_index}
use Rattle.lang_base.specs.declared.errors.FormError.{FormError}
use Rattle.lang_base.specs.declared.errors.FormError.TheVariants.{NoMemory}
use Rattle.rtl_language.specs.Function as rtl
use Rattle.rtl_language.specs.Spelling as rtl_form
use Rattle.ltl.specs.Function as ltl
use Rattle.ltl.specs.Spelling as ltl_form
use Rattle.linear_language.specs.Function as linear
use Rattle.linear_language.specs.Spelling as linear_form
use Rattle.rtl_passes_marks.specs.RowForm.{rows_text}
use Rattle.rtl_passes_facts.specs.Certificates as rows
use Rattle.constprop_check_rules.specs.Rules.{propagation}
use Rattle.constprop_check.specs.FactForm.{fact_text}
use Rattle.cse_check_rules.specs.Rules.{elimination}
use Rattle.cse_check_rules.specs.Order.{equation_text}
use Rattle.alloc_check.specs.Text as places
use Rattle.linearize_check.specs.OrderForm as order
use Rattle.offers.specs.declared.parts.Parts.{Parts}
use Rattle.offers.specs.Text.{spelling_of, PartsFit}
use Rattle.text_offers.specs.Shown.{Constants, Expressions, Allocation, Layout, shown_constants, shown_expressions, shown_allocation, shown_layout}

-- all of the bytes are the written form of these parts
pub record IsOfferOf {I O C : Type 0} (number : ℕ) (input : I → List ℕ) (output : O → List ℕ) (certificate : I → O → C → List ℕ) (InputFits : I → Type 0) (OutputFits : O → Type 0) (CertificateFits : I → O → C → Type 0)
    (bytes : List ℕ) (parts : Parts I O C) : Type 0 where
  pub fits : PartsFit InputFits OutputFits CertificateFits parts
  pub text : bytes ≡ spelling_of number input output certificate parts

abbrev pub IsConstants : List ℕ → Constants → Type 0
IsConstants bytes parts = IsOfferOf 17 rtl_form.spelling rtl_form.spelling (λ i o c. rows_text fact_text c) rtl.IsFunction rtl.IsFunction (λ i o c. rows.CertFits propagation i c) bytes parts

abbrev pub IsExpressions : List ℕ → Expressions → Type 0
IsExpressions bytes parts = IsOfferOf 18 rtl_form.spelling rtl_form.spelling (λ i o c. rows_text equation_text c) rtl.IsFunction rtl.IsFunction (λ i o c. rows.CertFits elimination i c) bytes parts

abbrev pub IsAllocation : List ℕ → Allocation → Type 0
IsAllocation bytes parts = IsOfferOf 19 rtl_form.spelling ltl_form.spelling (λ i o c. places.cert_text c) rtl.IsFunction ltl.IsFunction places.CertFits bytes parts

abbrev pub IsLayout : List ℕ → Layout → Type 0
IsLayout bytes parts = IsOfferOf 4 ltl_form.spelling linear_form.spelling (λ i o c. order.cert_text c) ltl.IsFunction linear.IsFunction (λ i o c. order.CertFits i c) bytes parts

-- the text of a written offer
pub data IsOfferTextOf (bytes text : List ℕ) : Type 0 where
  OfConstants : (parts : Constants) → IsConstants bytes parts → text ≡ shown_constants parts → IsOfferTextOf bytes text
  OfExpressions : (parts : Expressions) → IsExpressions bytes parts → text ≡ shown_expressions parts → IsOfferTextOf bytes text
  OfAllocation : (parts : Allocation) → IsAllocation bytes parts → text ≡ shown_allocation parts → IsOfferTextOf bytes text
  OfLayout : (parts : Layout) → IsLayout bytes parts → text ≡ shown_layout parts → IsOfferTextOf bytes text

-- unless memory was refused, the bytes are a written offer of no pass
abbrev pub HasNoOfferText : List ℕ → FormError → Type 0
HasNoOfferText bytes fault = fault ≢ NoMemory → (text : List ℕ) → IsOfferTextOf bytes text → ⊥

-- unless memory was refused, the bytes are the written form of no parts of this pass
abbrev pub HasNoParts : {I O C : Type 0} → (List ℕ → Parts I O C → Type 0) → List ℕ → FormError → Type 0
HasNoParts {I} {O} {C} Is bytes fault = fault ≢ NoMemory → (parts : Parts I O C) → Is bytes parts → ⊥

-- the first byte, which tells the pass; 0 where there is none
abbrev pub first_of : List ℕ → ℕ
first_of bytes = slice_index bytes 0
