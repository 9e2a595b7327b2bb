-- The bytes of a written offer, over the spellings of any pass.
use Rattle.std.specs.Prelude.{ℕ, List, ◌∷◌, ◌++◌}
use Rattle.lang_base.specs.declared.language.Language as language
use Rattle.lang_base.specs.declared.pass.Pass as pass
use Rattle.offers.specs.declared.parts.Parts.{Parts}

-- the pass's number, the input, the output, and the certificate beside the two
abbrev pub spelling_of : {I O C : Type 0} → ℕ → (I → List ℕ) → (O → List ℕ) → (I → O → C → List ℕ) → Parts I O C → List ℕ
spelling_of number input_text output_text certificate_text parts =
    number ∷ (input_text parts.input ++ (output_text parts.output ++ certificate_text parts.input parts.output parts.certificate))

-- the same, of a pass from one language to another
abbrev pub text_of : {P A B C I O : Type 0} → language.Ghosts A I → language.Ghosts B O → pass.Ghosts P A B C I O → Parts I O C → List ℕ
text_of from to by parts = spelling_of by.NUMBER from.spelling to.spelling by.cert_spelling parts

-- each part has a spelling
pub record PartsFit {I O C : Type 0} (InputFits : I → Type 0) (OutputFits : O → Type 0) (CertificateFits : I → O → C → Type 0) (parts : Parts I O C) : Type 0 where
  pub input : InputFits parts.input
  pub output : OutputFits parts.output
  pub certificate : CertificateFits parts.input parts.output parts.certificate
