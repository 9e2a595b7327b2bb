-- The nodes that are reached from the entry, and the order that lists them: the entry first, the others rising.
use Rattle.std.specs.Prelude.{◌≡◌, ◌≢◌, ℕ, zero, suc, ◌↔◌, List, ◌∷◌, slice_get, Contains}
use Rattle.std.specs.List.Sorted.{IsStrictlyIncreasing}
use Rattle.ltl.specs.Function.{FunctionData}
use Rattle.linearize_check_proof.specs.Layout.{successors_of}

-- a walk of so many edges leads from the entry to the node
abbrev pub IsReachedIn : FunctionData → ℕ → ℕ → Type 0
IsReachedIn f zero n = f.entry ≡ n
IsReachedIn f (suc steps) n = (m : ℕ) × IsReachedIn f steps m × Contains (successors_of (slice_get f.blocks m)) n

-- some walk leads from the entry to the node
abbrev pub IsReached : FunctionData → ℕ → Type 0
IsReached f n = (steps : ℕ) × IsReachedIn f steps n

-- a first number, and then, rising, the others for which a property holds
pub record IsFirstThenRising (P : ℕ → Type 0) (first : ℕ) (order : List ℕ) : Type 0 where
  pub others : List ℕ
  pub is : order ≡ first ∷ others
  pub rising : IsStrictlyIncreasing others
  pub exactly : (n : ℕ) → Contains others n ↔ (P n × (n ≢ first))

-- the nodes that are reached: the entry first, and the others rising
abbrev pub IsRising : FunctionData → List ℕ → Type 0
IsRising f order = IsFirstThenRising (IsReached f) f.entry order
