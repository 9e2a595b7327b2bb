-- The front of a text of parts, put together from the fronts of its number, input, output and certificate.
use Rattle.std.proofs.Common.{◌≡◌, ℕ, List, ◌∷◌, ◌++◌, drop, sym, ap, ◌∙◌, subst, append_assoc}
use Rattle.offers.specs.declared.parts.Parts.{Parts}
use Rattle.offers.specs.Text.{spelling_of, PartsFit}
use Rattle.offers.specs.Fronts.{IsOnlyFront, HasNoFront}

module _ {I O C : Type 0} (number : ℕ) (InputFits : I → Type 0) (OutputFits : O → Type 0) (CertificateFits : I → O → C → Type 0) (input_text : I → List ℕ) (output_text : O → List ℕ) (certificate_text : I → O → C → List ℕ) where
  regrouped : (a b c d : List ℕ) → (a ++ (b ++ c)) ++ d ≡ a ++ (b ++ (c ++ d))
  regrouped a b c d = simp append_assoc

  abbrev text : Parts I O C → List ℕ
  text = spelling_of number input_text output_text certificate_text

  abbrev Fits : Parts I O C → Type 0
  Fits = PartsFit InputFits OutputFits CertificateFits

  -- what stands behind the number of a text
  pub behind_number : (p : Parts I O C) (bytes behind rest : List ℕ) → bytes ≡ number ∷ behind → bytes ≡ text p ++ rest
      → behind ≡ input_text p.input ++ (output_text p.output ++ (certificate_text p.input p.output p.certificate ++ rest))
  behind_number p bytes behind rest first e =
      ap (drop 1) (sym first ∙ e)
      ∙ regrouped (input_text p.input) (output_text p.output) (certificate_text p.input p.output p.certificate) rest

  pub fronts_make_text : (input : I) (output : O) (certificate : C) (bytes one two three rest : List ℕ)
      → bytes ≡ number ∷ one → one ≡ input_text input ++ two → two ≡ output_text output ++ three
      → three ≡ certificate_text input output certificate ++ rest
      → bytes ≡ text (record { input = input; output = output; certificate = certificate }) ++ rest
  fronts_make_text input output certificate bytes one two three rest first second third fourth =
      first
      ∙ ap (λ it. number ∷ it) (second ∙ ap (λ it. input_text input ++ it) (third ∙ ap (λ it. output_text output ++ it) fourth))
      ∙ ap (λ it. number ∷ it) (sym (regrouped (input_text input) (output_text output) (certificate_text input output certificate) rest))

  pub no_input_no_text : (bytes one : List ℕ) → bytes ≡ number ∷ one → HasNoFront InputFits input_text one → HasNoFront Fits text bytes
  no_input_no_text bytes one first none p rest fits e = none p.input _ fits.input (behind_number p bytes one rest first e)

  module _ (bytes one two : List ℕ) (input : I) (first : bytes ≡ number ∷ one) (only_input : IsOnlyFront InputFits input_text one input two) where
    -- the input of any text that the bytes begin with, and what stands behind it
    pub input_is : (p : Parts I O C) (rest : List ℕ) → Fits p → bytes ≡ text p ++ rest
        → (input ≡ p.input) × (two ≡ output_text p.output ++ (certificate_text p.input p.output p.certificate ++ rest))
    input_is p rest fits e = only_input p.input _ fits.input (behind_number p bytes one rest first e)

    pub no_output_no_text : HasNoFront OutputFits output_text two → HasNoFront Fits text bytes
    no_output_no_text none p rest fits e = none p.output _ fits.output (input_is p rest fits e).1

    module _ (three : List ℕ) (output : O) (only_output : IsOnlyFront OutputFits output_text two output three) where
      -- the output too
      pub output_is : (p : Parts I O C) (rest : List ℕ) → Fits p → bytes ≡ text p ++ rest
          → (output ≡ p.output) × (three ≡ certificate_text p.input p.output p.certificate ++ rest)
      output_is p rest fits e = only_output p.output _ fits.output (input_is p rest fits e).1

      -- what stands behind the output, by the input and the output that were found
      pub certificate_stands : (p : Parts I O C) (rest : List ℕ) → Fits p → bytes ≡ text p ++ rest
          → CertificateFits input output p.certificate × (three ≡ certificate_text input output p.certificate ++ rest)
      certificate_stands p rest fits e =
          let same_input : input ≡ p.input = (input_is p rest fits e).0 in
          let same_output : output ≡ p.output = (output_is p rest fits e).0 in
          let found : three ≡ certificate_text p.input p.output p.certificate ++ rest = (output_is p rest fits e).1 in
          rw (same_input, same_output) (fits.certificate, found)

      pub no_certificate_no_text : HasNoFront (CertificateFits input output) (certificate_text input output) three → HasNoFront Fits text bytes
      no_certificate_no_text none p rest fits e =
          let stands = certificate_stands p rest fits e in
          none p.certificate rest stands.0 stands.1

      pub only_parts : (certificate : C) (behind : List ℕ) → IsOnlyFront (CertificateFits input output) (certificate_text input output) three certificate behind
          → IsOnlyFront Fits text bytes (record { input = input; output = output; certificate = certificate }) behind
      only_parts certificate behind only p rest fits e =
          let stands = certificate_stands p rest fits e in
          let last = only p.certificate rest stands.0 stands.1 in
          (λ i. record { input = (input_is p rest fits e).0 i; output = (output_is p rest fits e).0 i; certificate = last.0 i }, last.1)
