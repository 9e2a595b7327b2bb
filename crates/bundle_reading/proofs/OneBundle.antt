-- Bytes are those of one bundle, since each pass's offers have one text.
use Rattle.std.proofs.Common.{◌≡◌, ℕ, List, [], ◌∷◌, ◌++◌, get_or, drop, map, refl, sym, ap, ◌∙◌}
use Rattle.std.specs.List.{AllByRecursion}
use Rattle.lang_base.proofs.Forms.{one_text}
use Rattle.offers.specs.Fronts.{HasOneText}
use Rattle.offers.specs.Text.{PartsFit}
use Rattle.rtl_language.specs.Function as rtl
use Rattle.ltl.specs.Function as ltl
use Rattle.linear_language.specs.Function as linear
use Rattle.constprop_check.specs.Certificates as facts
use Rattle.constprop_check_rules.specs.Rules.{propagation}
use Rattle.chains.specs.Rules.{elimination}
use Rattle.chains.specs.Text as allocation
use Rattle.chains.specs.OrderForm as order
use Rattle.chains.specs.declared.offering.Offers.{Offers}
use Rattle.bundle_form.proofs.Forms.{bundle_form}
use Rattle.bundle_reading.specs.Texts.{HasOneBundle, OffersFit, bundle_with, first_text, fourth_text, second_text, texts_of, third_text}

same_text : {A : Type 0} (Fits : A → Type 0) (text : A → List ℕ) → HasOneText Fits text → (a b : A) → Fits a → Fits b → text a ≡ text b → a ≡ b
same_text Fits text one a b fits fits' e = (one a b [] [] fits fits' (ap (λ l. l ++ []) e)).0

module _ (first : HasOneText (PartsFit rtl.IsFunction rtl.IsFunction (λ i p c. facts.CertFits propagation i c)) first_text)
    (second : HasOneText (PartsFit rtl.IsFunction rtl.IsFunction (λ i p c. facts.CertFits elimination i c)) second_text)
    (third : HasOneText (PartsFit rtl.IsFunction ltl.IsFunction allocation.CertFits) third_text)
    (fourth : HasOneText (PartsFit ltl.IsFunction linear.IsFunction (λ i p c. order.CertFits i c)) fourth_text) where
  same_offers : (o p : Offers) → OffersFit o → OffersFit p → texts_of o ≡ texts_of p → o ≡ p
  same_offers o p fits fits' e =
      let one = same_text _ first_text first o.constants p.constants fits.constants fits'.constants (ap (λ t. t.constants) e) in
      let two = same_text _ second_text second o.expressions p.expressions fits.expressions fits'.expressions (ap (λ t. t.expressions) e) in
      let three = same_text _ third_text third o.allocation p.allocation fits.allocation fits'.allocation (ap (λ t. t.allocation) e) in
      let four = same_text _ fourth_text fourth o.order p.order fits.order fits'.order (ap (λ t. t.order) e) in
      λ i. record { constants = one i; expressions = two i; allocation = three i; order = four i }

  all_same : (os ps : List Offers) → AllByRecursion OffersFit os → AllByRecursion OffersFit ps → map texts_of os ≡ map texts_of ps → os ≡ ps
  all_same [] [] fits fits' e = refl
  all_same [] (p ∷ ps) fits fits' e = absurd cc
  all_same (o ∷ os) [] fits fits' e = absurd cc
  all_same (o ∷ os) (p ∷ ps) fits fits' e =
      let head : texts_of o ≡ texts_of p = ap (λ l. get_or l 0 (texts_of o)) e in
      let rest = all_same os ps fits.1 fits'.1 (ap (drop 1) e) in
      λ i. same_offers o p fits.0 fits'.0 head i ∷ rest i

  pub has_one_bundle : HasOneBundle
  has_one_bundle bytes digest other offers others is are =
      let same : bundle_with digest offers ≡ bundle_with other others =
      (one_text bundle_form (bundle_with digest offers) (bundle_with other others) [] [] is.form are.form (ap (λ l. l ++ []) (sym is.text ∙ are.text))).0 in
      (ap (λ b. b.digest) same, all_same offers others is.fit are.fit (ap (λ b. b.functions) same))
