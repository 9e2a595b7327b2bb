-- No text of parts is a beginning of another, where that holds of each part.
use Rattle.std.proofs.Common.{◌≡◌, ℕ, List, ◌++◌, drop, sym, ap, ◌∙◌, subst, append_assoc}
use Rattle.offers.specs.declared.parts.Parts.{Parts}
use Rattle.offers.specs.Fronts.{HasOneText}
use Rattle.offers.specs.Text.{spelling_of, PartsFit}

module _ {I O C : Type 0} (number : ℕ) (InputFits : I → Type 0) (OutputFits : O → Type 0) (CertificateFits : I → O → C → Type 0) (input_text : I → List ℕ) (output_text : O → List ℕ) (certificate_text : I → O → C → List ℕ) where
  regrouped : (a b c d : List ℕ) → (a ++ (b ++ c)) ++ d ≡ a ++ (b ++ (c ++ d))
  regrouped a b c d = simp append_assoc

  abbrev text : Parts I O C → List ℕ
  text = spelling_of number input_text output_text certificate_text

  -- behind the number
  behind_number : (p q : Parts I O C) (x y : List ℕ) → text p ++ x ≡ text q ++ y
      → input_text p.input ++ (output_text p.output ++ (certificate_text p.input p.output p.certificate ++ x))
      ≡ input_text q.input ++ (output_text q.output ++ (certificate_text q.input q.output q.certificate ++ y))
  behind_number p q x y e =
      sym (regrouped (input_text p.input) (output_text p.output) (certificate_text p.input p.output p.certificate) x)
      ∙ ap (drop 1) e
      ∙ regrouped (input_text q.input) (output_text q.output) (certificate_text q.input q.output q.certificate) y

  pub same_text : HasOneText InputFits input_text → HasOneText OutputFits output_text
      → ((i : I) (o : O) → HasOneText (CertificateFits i o) (certificate_text i o))
      → HasOneText (PartsFit InputFits OutputFits CertificateFits) text
  same_text one_input one_output one_certificate p q x y fits_p fits_q e =
      let first = one_input p.input q.input _ _ fits_p.input fits_q.input (behind_number p q x y e) in
      let second = one_output p.output q.output _ _ fits_p.output fits_q.output first.1 in
      let fits : CertificateFits q.input q.output p.certificate =
      subst (λ i. CertificateFits i q.output p.certificate) first.0 (subst (λ o. CertificateFits p.input o p.certificate) second.0 fits_p.certificate) in
      let spelled : certificate_text q.input q.output p.certificate ++ x ≡ certificate_text q.input q.output q.certificate ++ y =
      sym (ap (λ i. certificate_text i q.output p.certificate ++ x) first.0) ∙ sym (ap (λ o. certificate_text p.input o p.certificate ++ x) second.0) ∙ second.1 in
      let third = one_certificate q.input q.output p.certificate q.certificate x y fits fits_q.certificate spelled in
      (λ i. record { input = first.0 i; output = second.0 i; certificate = third.0 i }, third.1)
