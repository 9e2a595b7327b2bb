-- What is read at a node tells of the node.
use Rattle.std.proofs.Common.{◌≡◌, ℕ, List, Some, subst}
use Rattle.std.specs.Prelude.{slice_get}
use Rattle.rtl_passes_marks.specs.Instruction.{Instruction}
use Rattle.rtl_passes_filled.specs.Rules.{RulesOf, IsRightAs, IsRightIn}

module _ {A : Type 0} (rules : RulesOf A) (first : ℕ) (inputs outputs : List Instruction) (lists : List (List A)) (n : ℕ) (i o : Instruction) (is_input : slice_get inputs n ≡ Some i) (is_output : slice_get outputs n ≡ Some o) where
  pub right_read : IsRightAs rules first lists n i o → IsRightIn rules first inputs outputs lists n
  right_read right i' o' e e' =
      let input : i ≡ i' = cc in
      let output : o ≡ o' = cc in
      subst (λ x. IsRightAs rules first lists n x o') input (subst (λ x. IsRightAs rules first lists n i x) output right)

  pub wrong_read : ¬ IsRightAs rules first lists n i o → ¬ IsRightIn rules first inputs outputs lists n
  wrong_read wrong right = wrong (right i o is_input is_output)
