-- Offers of a pass with one text are one offer.
use Rattle.std.proofs.Common.{◌≡◌, ℕ, ◌≤◌, ◌^◌, List, [], ◌∷◌, ◌++◌, codes, refl, sym, ap, ◌∙◌, subst, arith, length}
use Rattle.std.specs.List.{AllByRecursion}
use Rattle.std.proofs.lemmas.List.{append_cancel_left, append-nil}
use Rattle.lang_base.specs.declared.program.Named.{Named}
use Rattle.rtl_language.specs.Function as rtl
use Rattle.ltl.specs.Function as ltl
use Rattle.linear_language.specs.Function as linear
use Rattle.offers.specs.declared.parts.Parts.{Parts}
use Rattle.offers.specs.Text.{PartsFit}
use Rattle.constprop_check_rules.specs.Rules.{FactFits}
use Rattle.cse_check_rules.specs.Rules as elimination
use Rattle.alloc_check_rules.specs.Rules as allocation
use Rattle.text_keys.proofs.Clear.{Clear, Outside, Begins}
use Rattle.text_common.proofs.Functions.{IsNamed}
use Rattle.text_rtl.specs.Shown as rtl_text
use Rattle.text_rtl.proofs.Programs as rtl_told
use Rattle.text_ltl.specs.Shown as ltl_text
use Rattle.text_ltl.proofs.Programs as ltl_told
use Rattle.text_linear.specs.Shown as linear_text
use Rattle.text_linear.proofs.Programs as linear_told
use Rattle.text_offers.specs.Entries.{fact_words, equation_words, place_words}
use Rattle.text_offers.specs.Lines.{rows_lines, order_line}
use Rattle.text_offers.specs.Shown.{shown_offer, Constants, Expressions, Allocation, Layout, shown_constants, shown_expressions, shown_allocation, shown_layout}
use Rattle.text_offers.specs.Files.{IsConstants, IsExpressions, IsAllocation, IsLayout}
use Rattle.text_offers.proofs.Entries.{read_fact, fact_again, fact_fits, read_equation, equation_again, equation_fits, read_place, place_again, place_fits}
use Rattle.text_offers.proofs.Lines.{IsEnd, RowIsTold, rows_clear, rows_outside, rows_fit, OrderIsTold, order_clear, order_outside, order_fits}

-- a function under a name that is given
abbrev under : {F : Type 0} → (Named F → List ℕ) → List ℕ → F → List ℕ
under text name f = text (record { name = name; function = f })

module _ {F : Type 0} (text : Named F → List ℕ) (Fits : F → Type 0) (clear : Clear text (IsNamed Fits) (Outside 32)) where
  input_clear : Clear (under text (codes "input")) Fits (Outside 32)
  input_clear f g r s fits fits' ends ends' e =
      let told = clear (record { name = codes "input"; function = f }) (record { name = codes "input"; function = g }) r s (record { name = refl; function = fits }) (record { name = refl; function = fits' }) ends ends' e in
      (ap (λ (n : Named F). n.function) told.0, told.1)

  output_clear : Clear (under text (codes "output")) Fits (Outside 32)
  output_clear f g r s fits fits' ends ends' e =
      let told = clear (record { name = codes "output"; function = f }) (record { name = codes "output"; function = g }) r s (record { name = refl; function = fits }) (record { name = refl; function = fits' }) ends ends' e in
      (ap (λ (n : Named F). n.function) told.0, told.1)

-- parts whose functions and certificate are in range
record Told {I O C : Type 0} (InputFits : I → Type 0) (OutputFits : O → Type 0) (CertificateFits : C → Type 0) (parts : Parts I O C) : Type 0 where
  pub input : InputFits parts.input
  pub output : OutputFits parts.output
  pub certificate : CertificateFits parts.certificate

module _ {I O C : Type 0} (title : List ℕ) (input : I → List ℕ) (output : O → List ℕ) (certificate : C → List ℕ) (InputFits : I → Type 0) (OutputFits : O → Type 0) (CertificateFits : C → Type 0)
    (input_tells : Clear input InputFits (Outside 32)) (output_tells : Clear output OutputFits (Outside 32)) (begins : (o : O) → Begins 102 (output o))
    (certificate_tells : Clear certificate CertificateFits IsEnd) (outside : (c : C) → Outside 32 (certificate c)) where
  output_outside : (o : O) (behind : List ℕ) → Outside 32 (output o ++ behind)
  output_outside o behind = subst (Outside 32) (sym (ap (λ t. t ++ behind) (begins o).1)) (λ e. omega (arith, e))

  offers_tell : (p q : Parts I O C) → Told InputFits OutputFits CertificateFits p → Told InputFits OutputFits CertificateFits q → shown_offer title input output certificate p ≡ shown_offer title input output certificate q → p ≡ q
  offers_tell p q fits fits' e =
      let inputs = input_tells p.input q.input (output p.output ++ certificate p.certificate) (output q.output ++ certificate q.certificate) fits.input fits'.input
      (output_outside p.output (certificate p.certificate)) (output_outside q.output (certificate q.certificate)) (append_cancel_left title _ _ e) in
      let outputs = output_tells p.output q.output (certificate p.certificate) (certificate q.certificate) fits.output fits'.output (outside p.certificate) (outside q.certificate) inputs.1 in
      let certificates = certificate_tells p.certificate q.certificate [] [] fits.certificate fits'.certificate refl refl
      (append-nil (certificate p.certificate) ∙ outputs.1 ∙ sym (append-nil (certificate q.certificate))) in
      λ i. record { input = inputs.0 i; output = outputs.0 i; certificate = certificates.0 i }

-- ---- pass by pass

constants_fit : (bytes : List ℕ) (p : Constants) → IsConstants bytes p → Told rtl.IsFunction rtl.IsFunction (AllByRecursion (RowIsTold fact_words)) p
constants_fit bytes p is =
    let c = is.fits.certificate in
    record { input = is.fits.input; output = is.fits.output; certificate = rows_fit fact_words (FactFits p.input.registers) (fact_fits p.input.registers c.few) (length p.input.nodes) c.nodes p.certificate c.each.each }

pub constants_tell : (a b : List ℕ) (p q : Constants) → IsConstants a p → IsConstants b q → shown_constants p ≡ shown_constants q → p ≡ q
constants_tell a b p q is is' =
    offers_tell (codes "offer pass 1\n") (under rtl_text.shown_named (codes "input")) (under rtl_text.shown_named (codes "output")) (rows_lines fact_words) rtl.IsFunction rtl.IsFunction (AllByRecursion (RowIsTold fact_words))
    (input_clear rtl_text.shown_named rtl.IsFunction rtl_told.named_clear) (output_clear rtl_text.shown_named rtl.IsFunction rtl_told.named_clear) (λ o. rtl_told.named_begins (record { name = codes "output"; function = o }))
    (rows_clear fact_words read_fact fact_again) (rows_outside fact_words) p q (constants_fit a p is) (constants_fit b q is')

expressions_fit : (bytes : List ℕ) (p : Expressions) → IsExpressions bytes p → Told rtl.IsFunction rtl.IsFunction (AllByRecursion (RowIsTold equation_words)) p
expressions_fit bytes p is =
    let c = is.fits.certificate in
    record { input = is.fits.input; output = is.fits.output; certificate = rows_fit equation_words (elimination.EquationFits p.input.registers) (equation_fits p.input.registers c.few) (length p.input.nodes) c.nodes p.certificate c.each.each }

pub expressions_tell : (a b : List ℕ) (p q : Expressions) → IsExpressions a p → IsExpressions b q → shown_expressions p ≡ shown_expressions q → p ≡ q
expressions_tell a b p q is is' =
    offers_tell (codes "offer pass 2\n") (under rtl_text.shown_named (codes "input")) (under rtl_text.shown_named (codes "output")) (rows_lines equation_words) rtl.IsFunction rtl.IsFunction (AllByRecursion (RowIsTold equation_words))
    (input_clear rtl_text.shown_named rtl.IsFunction rtl_told.named_clear) (output_clear rtl_text.shown_named rtl.IsFunction rtl_told.named_clear) (λ o. rtl_told.named_begins (record { name = codes "output"; function = o }))
    (rows_clear equation_words read_equation equation_again) (rows_outside equation_words) p q (expressions_fit a p is) (expressions_fit b q is')

allocation_fit : (bytes : List ℕ) (p : Allocation) → IsAllocation bytes p → Told rtl.IsFunction ltl.IsFunction (AllByRecursion (RowIsTold place_words)) p
allocation_fit bytes p is =
    let c = is.fits.certificate in
    record { input = is.fits.input; output = is.fits.output; certificate = rows_fit place_words (allocation.EquationFits p.input.registers p.output.slots) (place_fits p.input.registers p.output.slots c.registers c.slots) (length p.input.nodes) c.nodes p.certificate c.each.each }

pub allocation_tell : (a b : List ℕ) (p q : Allocation) → IsAllocation a p → IsAllocation b q → shown_allocation p ≡ shown_allocation q → p ≡ q
allocation_tell a b p q is is' =
    offers_tell (codes "offer pass 3\n") (under rtl_text.shown_named (codes "input")) (under ltl_text.shown_named (codes "output")) (rows_lines place_words) rtl.IsFunction ltl.IsFunction (AllByRecursion (RowIsTold place_words))
    (input_clear rtl_text.shown_named rtl.IsFunction rtl_told.named_clear) (output_clear ltl_text.shown_named ltl.IsFunction ltl_told.named_clear) (λ o. ltl_told.named_begins (record { name = codes "output"; function = o }))
    (rows_clear place_words read_place place_again) (rows_outside place_words) p q (allocation_fit a p is) (allocation_fit b q is')

layout_fit : (bytes : List ℕ) (p : Layout) → IsLayout bytes p → Told ltl.IsFunction linear.IsFunction OrderIsTold p
layout_fit bytes p is =
    let c = is.fits.certificate in
    record { input = is.fits.input; output = is.fits.output; certificate = order_fits (length p.input.blocks) (omega (arith, c.few_nodes)) p.certificate c.each.each }

pub layout_tell : (a b : List ℕ) (p q : Layout) → IsLayout a p → IsLayout b q → shown_layout p ≡ shown_layout q → p ≡ q
layout_tell a b p q is is' =
    offers_tell (codes "offer pass 4\n") (under ltl_text.shown_named (codes "input")) (under linear_text.shown_named (codes "output")) order_line ltl.IsFunction linear.IsFunction OrderIsTold
    (input_clear ltl_text.shown_named ltl.IsFunction ltl_told.named_clear) (output_clear linear_text.shown_named linear.IsFunction linear_told.named_clear) (λ o. linear_told.named_begins (record { name = codes "output"; function = o }))
    order_clear order_outside p q (layout_fit a p is) (layout_fit b q is')
