-- Lists of registers, one for each node.
use Rattle.std.specs.Prelude.{◌≡◌, ℕ, suc, ◌<◌, ◌≤◌, ◌↔◌, List, [], ◌∷◌, length, slice_index_or, Contains}
use Rattle.rtl_language.specs.declared.instruction.Instruction.{Instruction}
use Rattle.alloc_check_live.specs.Liveness.{IsLive}

-- the list at a node
abbrev pub registers_at : List (List ℕ) → ℕ → List ℕ
registers_at lists n = slice_index_or lists n []

-- each number is above the one before it, and the first is no lower than this
abbrev pub RisesFrom : ℕ → List ℕ → Type 0
RisesFrom low [] = Unit {0}
RisesFrom low (x ∷ xs) = (low ≤ x) × RisesFrom (suc x) xs

-- At each node the registers that are live there, rising, and no others.
pub record AreLive (nodes : List Instruction) (lists : List (List ℕ)) : Type 0 where
  pub count : length lists ≡ length nodes
  pub rising : (n : ℕ) → RisesFrom 0 (registers_at lists n)
  pub exactly : (n register : ℕ) → Contains (registers_at lists n) register ↔ IsLive nodes n register

-- so far: the registers below this one
pub record AreLiveBelow (nodes : List Instruction) (bound : ℕ) (lists : List (List ℕ)) : Type 0 where
  pub count : length lists ≡ length nodes
  pub rising : (n : ℕ) → RisesFrom 0 (registers_at lists n)
  pub exactly : (n register : ℕ) → Contains (registers_at lists n) register ↔ (IsLive nodes n register × (register < bound))
