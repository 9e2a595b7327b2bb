-- Rows of equations are a form: each text is read again, and nothing else is.
use Rattle.std.proofs.Common.{ℕ, ◌≤◌, ◌^◌, refl}
use Rattle.lang_base.proofs.Forms.{IsForm}
use Rattle.lang_base.proofs.Parts.{made_form, both_form}
use Rattle.locations.specs.declared.location.Location.{Location}
use Rattle.locations.specs.Fits.{LocationFits}
use Rattle.locations.specs.Spelling.{location_text}
use Rattle.locations.specs.Reading.{location}
use Rattle.locations.proofs.Forms.{location_form}
use Rattle.rtl_acts.specs.Fits.{RegisterFits}
use Rattle.rtl_acts.specs.Spelling.{register_text}
use Rattle.rtl_acts.specs.Reading.{register}
use Rattle.rtl_acts.proofs.Forms.{register_form}
use Rattle.rtl_passes_marks.specs.RowForm.{RowsFit, rows, rows_form}
use Rattle.alloc_check_rules.specs.Rules.{EquationFits}
use Rattle.alloc_check_proof.specs.Text.{equation_text, cert_text}
use Rattle.alloc_check_proof.specs.Reading.{equation}

module _ (registers slots : ℕ) (few : registers ≤ 2 ^ 16) (also : slots ≤ 2 ^ 16) where
  pub equation_form : IsForm (equation registers slots) equation_text (EquationFits registers slots)
  unfolding equation
  equation_form =
      made_form (λ (p : ℕ × Location). record { register = p.0; location = p.1 })
      (both_form (register registers) register_text (RegisterFits registers) (register_form registers few) (λ r. location slots) (λ r. location_text) (λ r. LocationFits slots) (λ r fits. location_form slots also))
      equation_text (EquationFits registers slots)
      (λ p fits. (refl, fits))
      (λ e fits. ((e.register, e.location), fits, refl))

-- what is read is spelled so, and what is spelled so is read
pub rows_of_equations : (registers slots nodes : ℕ) → registers ≤ 2 ^ 16 → slots ≤ 2 ^ 16 → nodes ≤ 2 ^ 16 → IsForm (rows (equation registers slots) nodes) cert_text (RowsFit (EquationFits registers slots) nodes)
rows_of_equations registers slots nodes few also most = rows_form (equation_form registers slots few also) nodes most
