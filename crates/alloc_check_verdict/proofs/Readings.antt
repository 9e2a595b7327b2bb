-- What is read at a node tells of the node.
use Rattle.std.proofs.Common.{◌≡◌, ℕ, List, Some, subst}
use Rattle.std.specs.Prelude.{slice_get}
use Rattle.rtl_language.specs.declared.instruction.Instruction.{Instruction}
use Rattle.rtl_language.specs.Function as rtl
use Rattle.ltl.specs.declared.block.Block.{Block}
use Rattle.ltl.specs.Function as ltl
use Rattle.alloc_check_rules.specs.declared.equation.Equation.{Equation}
use Rattle.alloc_check_rules.specs.Rules.{IsRightAs, IsRightAt}

module _ (input : rtl.FunctionData) (output : ltl.FunctionData) (lists : List (List Equation)) (n : ℕ) (i : Instruction) (b : Block) (instructions : List Instruction) (blocks : List Block) (nodes : instructions ≡ input.nodes) (same : blocks ≡ output.blocks) (is_input : slice_get instructions n ≡ Some i) (is_output : slice_get blocks n ≡ Some b) where
  pub right_read : IsRightAs input output lists n i b → IsRightAt input output lists n
  right_read right i' b' e e' =
      let first : i ≡ i' = cc in
      let second : b ≡ b' = cc in
      subst (λ x. IsRightAs input output lists n x b') first (subst (λ x. IsRightAs input output lists n i x) second right)

  pub wrong_read : ¬ IsRightAs input output lists n i b → ¬ IsRightAt input output lists n
  wrong_read wrong right =
      let first : slice_get input.nodes n ≡ Some i = cc in
      let second : slice_get output.blocks n ≡ Some b = cc in
      wrong (right i b first second)
