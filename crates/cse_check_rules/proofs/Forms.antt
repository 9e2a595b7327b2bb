-- Equations are a form: each text is read again, and nothing else is.
use Rattle.std.proofs.Common.{◌≡◌, ℕ, ◌<◌, ◌≤◌, ◌^◌, List, ◌∷◌, ◌++◌, Ok, refl}
use Rattle.std.specs.Int.{w16, to_be_bytes}
use Rattle.lang_base.specs.Reading.{byte, decoded, both, follow, unknown}
use Rattle.lang_base.proofs.Forms.{IsForm}
use Rattle.lang_base.proofs.Parts.{byte_text, byte_form, made_takes, made_again, made_form, decoded_form, both_form}
use Rattle.lang_base.proofs.Lists.{HasCode, TakesBehind, unknown_takes, follow_form, coded_form}
use Rattle.ints.specs.declared.operators.Op.{Op}
use Rattle.ints.specs.Codes.{code_of, op_of_code, argument_count_of}
use Rattle.ints.proofs.Codes.{codes_lead_back}
use Rattle.rtl_acts.specs.declared.arguments.Arguments.{Arguments}
use Rattle.rtl_acts.specs.Fits.{RegisterFits, GlobalFits, ArgumentsFit}
use Rattle.rtl_acts.specs.Spelling.{register_text, arguments_text}
use Rattle.lang_helpers.specs.Limits.{global}
use Rattle.rtl_acts.specs.Reading.{register, arguments}
use Rattle.lang_helpers.proofs.Limits.{global_form}
use Rattle.rtl_acts.proofs.Forms.{register_form, arguments_form}
use Rattle.machine.proofs.Operators.{argument_count_range, code_small}
use Rattle.cse_check_rules.specs.declared.equation.RightSide.{RightSide}
use Rattle.cse_check_rules.specs.declared.equation.RightSide.TheVariants.{Operation, Cell, Copy}
use Rattle.cse_check_rules.specs.Order.{right_code, right_body, equation_text}
use Rattle.cse_check_rules.specs.Rules.{RightFits, EquationFits}
use Rattle.cse_check_rules.specs.Reading.{operation, cell, copying, rights, right, equation}

module _ (registers : ℕ) (few : registers ≤ 2 ^ 16) where
  abbrev At : ℕ → RightSide → Type 0
  At code side = HasCode right_code right_body (RightFits registers) code side

  abbrev OperationFits : Op × Arguments → Type 0
  OperationFits p = (code_of p.0 < 256) × ArgumentsFit registers (argument_count_of p.0) p.1

  abbrev operation_text : Op × Arguments → List ℕ
  operation_text p = byte_text (code_of p.0) ++ arguments_text p.1

  operation_parts : IsForm (both (decoded op_of_code byte) (λ op. arguments registers (argument_count_of op))) operation_text OperationFits
  operation_parts =
      both_form (decoded op_of_code byte) (λ op. byte_text (code_of op)) (λ op. code_of op < 256) (decoded_form op_of_code code_of byte_form codes_lead_back.known codes_lead_back.only)
      (λ op. arguments registers (argument_count_of op)) (λ op. arguments_text) (λ op. ArgumentsFit registers (argument_count_of op))
      (λ op small. arguments_form registers few (argument_count_of op) (argument_count_range op))

  operation_takes : TakesBehind right_code right_body (RightFits registers) 0 (operation registers)
  unfolding operation
  operation_takes = made_takes (λ (p : Op × Arguments). Operation p.0 p.1) operation_parts right_body (At 0) (λ p fits. (refl, (fits.1, refl)))

  abbrev CellFits : ℕ × ℕ → Type 0
  CellFits p = GlobalFits p.0 × RegisterFits registers p.1

  cell_parts : IsForm (both global (λ g. register registers)) (λ p. to_be_bytes w16 p.0 ++ register_text p.1) CellFits
  cell_parts = both_form global (to_be_bytes w16) GlobalFits global_form (λ g. register registers) (λ g. register_text) (λ g. RegisterFits registers) (λ g fits. register_form registers few)

  cell_takes : TakesBehind right_code right_body (RightFits registers) 1 (cell registers)
  unfolding cell
  cell_takes = made_takes (λ (p : ℕ × ℕ). Cell p.0 p.1) cell_parts right_body (At 1) (λ p fits. (refl, (fits, refl)))

  copying_takes : TakesBehind right_code right_body (RightFits registers) 2 (copying registers)
  unfolding copying
  copying_takes = made_takes (λ r. Copy r) (register_form registers few) right_body (At 2) (λ r fits. (refl, (fits, refl)))

  right_again : (side : RightSide) (rest : List ℕ) → RightFits registers side → follow (rights registers) unknown (right_code side) (right_body side ++ rest) ≡ Ok (side, rest)
  unfolding operation cell copying
  right_again (Operation op args) rest fits = made_again (λ (p : Op × Arguments). Operation p.0 p.1) operation_parts (op, args) rest (code_small op, fits)
  right_again (Cell global index) rest fits = made_again (λ (p : ℕ × ℕ). Cell p.0 p.1) cell_parts (global, index) rest fits
  right_again (Copy source) rest fits = made_again (λ r. Copy r) (register_form registers few) source rest fits

  right_form : IsForm (right registers) (λ side. right_code side ∷ right_body side) (RightFits registers)
  unfolding right
  right_form =
      coded_form right_code right_body (RightFits registers) (follow (rights registers) unknown)
      (follow_form right_code right_body (RightFits registers) (rights registers) unknown
      (operation_takes, (cell_takes, (copying_takes, tt)))
      (unknown_takes right_code right_body (RightFits registers)) right_again)

  pub equation_form : IsForm (equation registers) equation_text (EquationFits registers)
  unfolding equation
  equation_form =
      made_form (λ (p : ℕ × RightSide). record { register = p.0; right = p.1 })
      (both_form (register registers) register_text (RegisterFits registers) (register_form registers few) (λ r. right registers) (λ r side. right_code side ∷ right_body side) (λ r. RightFits registers) (λ r fits. right_form))
      equation_text (EquationFits registers)
      (λ p fits. (refl, fits))
      (λ e fits. ((e.register, e.right), fits, refl))
