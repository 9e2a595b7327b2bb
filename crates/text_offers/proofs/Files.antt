-- Written offers with one text are one offer, and a written offer is one of one pass.
use Rattle.std.proofs.Common.{◌≡◌, ◌≢◌, ℕ, List, Result, Ok, Err, sym, ap, ◌∙◌, arith}
use Rattle.std.specs.Prelude.{slice_index, IfErr}
use Rattle.lang_base.specs.declared.errors.FormError.{FormError}
use Rattle.offers.specs.declared.parts.Parts.{Parts}
use Rattle.offers.specs.Text.{spelling_of}
use Rattle.text_offers.specs.Files.{IsOfferOf, IsConstants, IsExpressions, IsAllocation, IsLayout, IsOfferTextOf, OfConstants, OfExpressions, OfAllocation, OfLayout, first_of, HasNoParts, HasNoOfferText}
use Rattle.text_offers.proofs.Offers.{constants_tell, expressions_tell, allocation_tell, layout_tell}

-- the same parts have the same file
same_file : {I O C : Type 0} {number : ℕ} {input : I → List ℕ} {output : O → List ℕ} {certificate : I → O → C → List ℕ} {A : I → Type 0} {B : O → Type 0} {D : I → O → C → Type 0} (a b : List ℕ) (p q : Parts I O C) →
    IsOfferOf number input output certificate A B D a p → IsOfferOf number input output certificate A B D b q → p ≡ q → a ≡ b
same_file {number = number} {input = input} {output = output} {certificate = certificate} a b p q is is' e = is.text ∙ ap (spelling_of number input output certificate) e ∙ sym is'.text

-- the number of the pass in a text
abbrev pass : List ℕ → ℕ
pass text = slice_index text 11

pub one_offer : (a b text : List ℕ) → IsOfferTextOf a text → IsOfferTextOf b text → a ≡ b
one_offer a b text (OfConstants p is e) (OfConstants q is' e') = same_file a b p q is is' (constants_tell a b p q is is' (sym e ∙ e'))
one_offer a b text (OfExpressions p is e) (OfExpressions q is' e') = same_file a b p q is is' (expressions_tell a b p q is is' (sym e ∙ e'))
one_offer a b text (OfAllocation p is e) (OfAllocation q is' e') = same_file a b p q is is' (allocation_tell a b p q is is' (sym e ∙ e'))
one_offer a b text (OfLayout p is e) (OfLayout q is' e') = same_file a b p q is is' (layout_tell a b p q is is' (sym e ∙ e'))
one_offer a b text (OfConstants p is e) (OfExpressions q is' e') = absurd (let h : 49 ≡ 50 = ap pass (sym e ∙ e') in omega arith)
one_offer a b text (OfConstants p is e) (OfAllocation q is' e') = absurd (let h : 49 ≡ 51 = ap pass (sym e ∙ e') in omega arith)
one_offer a b text (OfConstants p is e) (OfLayout q is' e') = absurd (let h : 49 ≡ 52 = ap pass (sym e ∙ e') in omega arith)
one_offer a b text (OfExpressions p is e) (OfConstants q is' e') = absurd (let h : 50 ≡ 49 = ap pass (sym e ∙ e') in omega arith)
one_offer a b text (OfExpressions p is e) (OfAllocation q is' e') = absurd (let h : 50 ≡ 51 = ap pass (sym e ∙ e') in omega arith)
one_offer a b text (OfExpressions p is e) (OfLayout q is' e') = absurd (let h : 50 ≡ 52 = ap pass (sym e ∙ e') in omega arith)
one_offer a b text (OfAllocation p is e) (OfConstants q is' e') = absurd (let h : 51 ≡ 49 = ap pass (sym e ∙ e') in omega arith)
one_offer a b text (OfAllocation p is e) (OfExpressions q is' e') = absurd (let h : 51 ≡ 50 = ap pass (sym e ∙ e') in omega arith)
one_offer a b text (OfAllocation p is e) (OfLayout q is' e') = absurd (let h : 51 ≡ 52 = ap pass (sym e ∙ e') in omega arith)
one_offer a b text (OfLayout p is e) (OfConstants q is' e') = absurd (let h : 52 ≡ 49 = ap pass (sym e ∙ e') in omega arith)
one_offer a b text (OfLayout p is e) (OfExpressions q is' e') = absurd (let h : 52 ≡ 50 = ap pass (sym e ∙ e') in omega arith)
one_offer a b text (OfLayout p is e) (OfAllocation q is' e') = absurd (let h : 52 ≡ 51 = ap pass (sym e ∙ e') in omega arith)

-- ---- an offer of another pass has another first byte

numbered : {I O C : Type 0} {number : ℕ} {input : I → List ℕ} {output : O → List ℕ} {certificate : I → O → C → List ℕ} {A : I → Type 0} {B : O → Type 0} {D : I → O → C → Type 0} (bytes : List ℕ) (p : Parts I O C) →
    IsOfferOf number input output certificate A B D bytes p → first_of bytes ≡ number
numbered bytes p is = ap (λ b. slice_index b 0) is.text

-- no offer of a pass
abbrev None : {I O C : Type 0} → (List ℕ → Parts I O C → Type 0) → List ℕ → Type 0
None {I} {O} {C} Is bytes = (p : Parts I O C) → Is bytes p → ⊥

pub no_text : (bytes : List ℕ) → None IsConstants bytes → None IsExpressions bytes → None IsAllocation bytes → None IsLayout bytes → (text : List ℕ) → IsOfferTextOf bytes text → ⊥
no_text bytes c x a l text (OfConstants p is e) = c p is
no_text bytes c x a l text (OfExpressions p is e) = x p is
no_text bytes c x a l text (OfAllocation p is e) = a p is
no_text bytes c x a l text (OfLayout p is e) = l p is

pub no_constants : (bytes : List ℕ) → first_of bytes ≢ 17 → None IsConstants bytes
no_constants bytes ne p is = ne (numbered bytes p is)

pub no_expressions : (bytes : List ℕ) → first_of bytes ≢ 18 → None IsExpressions bytes
no_expressions bytes ne p is = ne (numbered bytes p is)

pub no_allocation : (bytes : List ℕ) → first_of bytes ≢ 19 → None IsAllocation bytes
no_allocation bytes ne p is = ne (numbered bytes p is)

pub no_layout : (bytes : List ℕ) → first_of bytes ≢ 4 → None IsLayout bytes
no_layout bytes ne p is = ne (numbered bytes p is)

-- bytes that begin with another byte than those four are no written offer
pub none_begins : (bytes : List ℕ) → first_of bytes ≡ 67 → (text : List ℕ) → IsOfferTextOf bytes text → ⊥
none_begins bytes is =
    no_text bytes (no_constants bytes (λ e. omega (arith, is, e))) (no_expressions bytes (λ e. omega (arith, is, e))) (no_allocation bytes (λ e. omega (arith, is, e))) (no_layout bytes (λ e. omega (arith, is, e)))

-- ---- where a pass's offers are refused

-- what is said of a refusal under another name
refused_by : {T : Type 0} (P Q : FormError → Type 0) → ((fault : FormError) → P fault → Q fault) → (r : Result T FormError) → IfErr r P → IfErr r Q
refused_by P Q to (Ok x) h = tt
refused_by P Q to (Err fault) h = to fault h

pub expressions_refused : {T : Type 0} (r : Result T FormError) (bytes : List ℕ) → first_of bytes ≡ 18 → IfErr r (λ fault. HasNoParts IsExpressions bytes fault) → IfErr r (λ fault. HasNoOfferText bytes fault)
expressions_refused r bytes is h =
    refused_by (λ fault. HasNoParts IsExpressions bytes fault) (λ fault. HasNoOfferText bytes fault)
    (λ fault none ne. no_text bytes (no_constants bytes (λ e. omega (arith, is, e))) (none ne) (no_allocation bytes (λ e. omega (arith, is, e))) (no_layout bytes (λ e. omega (arith, is, e)))) r h

pub allocation_refused : {T : Type 0} (r : Result T FormError) (bytes : List ℕ) → first_of bytes ≡ 19 → IfErr r (λ fault. HasNoParts IsAllocation bytes fault) → IfErr r (λ fault. HasNoOfferText bytes fault)
allocation_refused r bytes is h =
    refused_by (λ fault. HasNoParts IsAllocation bytes fault) (λ fault. HasNoOfferText bytes fault)
    (λ fault none ne. no_text bytes (no_constants bytes (λ e. omega (arith, is, e))) (no_expressions bytes (λ e. omega (arith, is, e))) (none ne) (no_layout bytes (λ e. omega (arith, is, e)))) r h

pub layout_refused : {T : Type 0} (r : Result T FormError) (bytes : List ℕ) → first_of bytes ≡ 4 → IfErr r (λ fault. HasNoParts IsLayout bytes fault) → IfErr r (λ fault. HasNoOfferText bytes fault)
layout_refused r bytes is h =
    refused_by (λ fault. HasNoParts IsLayout bytes fault) (λ fault. HasNoOfferText bytes fault)
    (λ fault none ne. no_text bytes (no_constants bytes (λ e. omega (arith, is, e))) (no_expressions bytes (λ e. omega (arith, is, e))) (no_allocation bytes (λ e. omega (arith, is, e))) (none ne)) r h

pub constants_refused : {T : Type 0} (r : Result T FormError) (bytes : List ℕ) → first_of bytes ≢ 18 → first_of bytes ≢ 19 → first_of bytes ≢ 4 → IfErr r (λ fault. HasNoParts IsConstants bytes fault) → IfErr r (λ fault. HasNoOfferText bytes fault)
constants_refused r bytes x a l h =
    refused_by (λ fault. HasNoParts IsConstants bytes fault) (λ fault. HasNoOfferText bytes fault) (λ fault none ne. no_text bytes (none ne) (no_expressions bytes x) (no_allocation bytes a) (no_layout bytes l)) r h
