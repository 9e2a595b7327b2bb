-- A walk backwards from the uses of a register: a step of it.
use Rattle.std.specs.Prelude.{◌≡◌, ℕ, List, [], ◌∷◌, ◌++◌, Option, Some, None, Bool, true, false, nat_eq, not, slice_get, Result, OnOk}
use Rattle.std.specs.List.{filter}
use Rattle.rtl_language.specs.declared.instruction.Instruction.{Instruction}
use Rattle.alloc_check_live.specs.Liveness.{defined_of}
use Rattle.alloc_check_live.specs.Lists.{registers_at}
use Rattle.alloc_check_live.specs.Tables.{added}

-- whether the last number of a list is this one
abbrev pub ends_with : List ℕ → ℕ → Bool
ends_with [] number = false
ends_with (x ∷ []) number = nat_eq x number
ends_with (x ∷ (y ∷ ys)) number = ends_with (y ∷ ys) number

abbrev pub is_that : Option ℕ → ℕ → Bool
is_that None number = false
is_that (Some x) number = nat_eq x number

-- whether a node defines the register
abbrev pub defines : Option Instruction → ℕ → Bool
defines node register = is_that (defined_of node) register

-- the nodes that do not define the register
abbrev pub kept : List Instruction → ℕ → List ℕ → List ℕ
kept nodes register ns = filter (λ n. not (defines (slice_get nodes n) register)) ns

-- where the register was entered at the node, nothing changes
abbrev pub LeavesEntered : {A E : Type 0} → ℕ → ℕ → List (List ℕ) → List ℕ → List (List ℕ) → List ℕ → Result A E → Type 0
LeavesEntered n register found pending found' pending' reached =
    ends_with (registers_at found n) register ≡ true → OnOk reached ((found' ≡ found) × (pending' ≡ pending))

-- where it was not, it is, and the nodes that lead there and do not define it lie on the stack
abbrev pub EntersNew : {A E : Type 0} → List Instruction → List (List ℕ) → ℕ → ℕ → List (List ℕ) → List ℕ → List (List ℕ) → List ℕ → Result A E → Type 0
EntersNew nodes leading n register found pending found' pending' reached =
    ends_with (registers_at found n) register ≡ false
    → OnOk reached ((found' ≡ added found n register) × (pending' ≡ pending ++ kept nodes register (registers_at leading n)))
