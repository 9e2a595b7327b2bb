-- What is found of a label is what the blocks ask.
use Rattle.std.proofs.Common.{◌≡◌, ℕ, suc, Bool, true, false, List, [], ◌∷◌, Option, Some, None, refl, ap, ◌∙◌}
use Rattle.std.specs.Prelude.{◌||◌, if◌then◌else◌}
use Rattle.std.specs.List.{list_any}
use Rattle.std.specs.Option.{is_some, option_map}
use Rattle.linear_language.specs.declared.instruction.Instruction.{Instruction}
use Rattle.linear_language.specs.declared.instruction.Instruction.TheVariants.{Do, Copy, Call, Branch, Return, Label, Goto}
use Rattle.linear_language.specs.Labels.{label_of, is_label, place_of}
use Rattle.native_lowering_definition.specs.Lowering.{names}
use Rattle.native_lowering_blocks.specs.Labels.{named_by}
use Rattle.native_lowering_blocks.specs.Noted.{is_there, is_named}

by_case : (b : Bool) (o : Option ℕ) (c : Bool) → c ≡ is_some o → (b || c) ≡ is_some (if b then Some 0 else option_map suc o)
by_case true o c e = refl
by_case false None c e = e
by_case false (Some p) c e = e

-- it stands in the code
pub stands : (l : ℕ) (code : List Instruction) → is_there l code ≡ is_some (place_of l code)
stands l [] = refl
stands l (i ∷ is) = by_case (is_label l (label_of i)) (place_of l is) (is_there l is) (stands l is)

same_name : (l : ℕ) (i : Instruction) → is_label l (named_by i) ≡ names l i
same_name l (Do act) = refl
same_name l (Copy step) = refl
same_name l (Call function arguments target) = refl
same_name l (Branch test label) = refl
same_name l (Return value) = refl
same_name l (Label label) = refl
same_name l (Goto label) = refl

-- it is named there
pub is_named_by : (l : ℕ) (code : List Instruction) → is_named l code ≡ list_any (names l) code
is_named_by l [] = refl
is_named_by l (i ∷ is) = ap (λ b. b || is_named l is) (same_name l i) ∙ ap (λ b. names l i || b) (is_named_by l is)
