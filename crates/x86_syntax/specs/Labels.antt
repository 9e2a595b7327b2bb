-- The labels of a code, and where they stand.
use Rattle.std.specs.Prelude.{ℕ, suc, List, [], ◌∷◌, Option, Some, None, Bool, false, nat_eq, if◌then◌else◌}
use Rattle.std.specs.Option.{option_map}
use Rattle.x86_syntax.specs.declared.instruction.Instruction.{Instruction}
use Rattle.x86_syntax.specs.declared.instruction.Instruction.TheVariants.{Label}

-- the label that an instruction is
unfoldable pub label_of : Instruction → Option ℕ
label_of (Label l) = Some l
label_of _ = None

abbrev pub label_before : Option ℕ → List ℕ → List ℕ
label_before None ls = ls
label_before (Some l) ls = l ∷ ls

-- the labels in order
abbrev pub labels_of : List Instruction → List ℕ
labels_of [] = []
labels_of (i ∷ is) = label_before (label_of i) (labels_of is)

abbrev pub is_label : ℕ → Option ℕ → Bool
is_label l None = false
is_label l (Some k) = nat_eq k l

-- the place of a label, if it stands there
abbrev pub place_of : ℕ → List Instruction → Option ℕ
place_of l [] = None
place_of l (i ∷ is) = if is_label l (label_of i) then Some 0 else option_map suc (place_of l is)
