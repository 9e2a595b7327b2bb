-- A walk back through all nodes: which lists are known so far.
use Rattle.std.specs.Prelude.{◌≡◌, ℕ, suc, ◌<◌, ◌≤◌, List, length, Option, Some, None, Bool, true, false, ◌↔◌, IsTrue, Contains, slice_get}
use Rattle.rtl_language.specs.Function as rtl
use Rattle.ltl.specs.Function as ltl
use Rattle.rtl_passes_marks.specs.declared.row.NodeRow.{NodeRow}
use Rattle.rtl_passes_marks.specs.Marks.{feeder}
use Rattle.rtl_passes_marks.specs.Handing.{is_fed_by, standing}
use Rattle.alloc_check_rules.specs.declared.equation.Equation.{Equation}
use Rattle.alloc_check_rules.specs.Rules.{equations_at, IsRightAt}
use Rattle.alloc_check_proof.specs.Sets.{SameSet}
use Rattle.alloc_check_proof.specs.Allocated.{is_marked, filled}
use Rattle.alloc_check_verdict.specs.declared.found.Found.{Found}
use Rattle.alloc_check_verdict.specs.declared.found.Found.TheVariants.{Borrowed, Taken}

-- Of marked nodes their rows are said.
pub record IsSaid (input : rtl.FunctionData) (output : ltl.FunctionData) (rows : List (NodeRow Equation)) (said : List (List Equation)) : Type 0 where
  pub marked : (k : ℕ) → k < length input.nodes → is_marked input k ≡ true → equations_at said k ≡ equations_at (filled input output rows) k

-- Each other node from this one on has what its block needs, until the node that leads there was gone back through.
pub record IsKnownFrom (input : rtl.FunctionData) (output : ltl.FunctionData) (rows : List (NodeRow Equation)) (n : ℕ) (lists : List (List Equation)) : Type 0 where
  pub count : length lists ≡ length input.nodes
  pub others : (k : ℕ) → n ≤ k → k < length input.nodes → is_marked input k ≡ false → ((m : ℕ) → feeder input.entry input.nodes k ≡ Some m → m < n) → SameSet (equations_at lists k) (equations_at (filled input output rows) k)

-- a node is told, and what is known from it on, where it was known from the next one on
abbrev pub GoesBack : rtl.FunctionData → ltl.FunctionData → List (List Equation) → ℕ → List (List Equation) → List (List Equation) → Bool → Type 0
GoesBack input output said n old new right =
    (rows : List (NodeRow Equation)) → IsSaid input output rows said → IsKnownFrom input output rows (suc n) old
    → (IsTrue right ↔ IsRightAt input output (filled input output rows) n) × IsKnownFrom input output rows n new

-- the equations that stand at a node: those that were carried there, or its row's
abbrev pub stands_at : List (Option ℕ) → List (List Equation) → List (List Equation) → ℕ → List Equation
stands_at feeders said lists k = standing (slice_get feeders k) said lists k

-- those of one row, or a list of their own
abbrev pub found_in : Found → List Equation
found_in (Borrowed equations) = equations.now
found_in (Taken equations) = equations.items

-- lists of these nodes were taken away where the nodes are fed, and others are as they were
pub record AreTaken (feeders : List (Option ℕ)) (taken : List ℕ) (old new : List (List Equation)) : Type 0 where
  pub count : length new ≡ length old
  pub kept : (k : ℕ) → (Contains taken k → is_fed_by (slice_get feeders k) ≡ false) → equations_at new k ≡ equations_at old k

-- the lowest wrong one of the nodes from this one on, or none
pub record IsLowestFrom (Right : ℕ → Type 0) (from count n : ℕ) : Type 0 where
  pub above : from ≤ n
  pub within : n < count
  pub wrong : ¬ Right n
  pub lower : (k : ℕ) → from ≤ k → k < n → Right k

abbrev pub TellsFrom : (ℕ → Type 0) → ℕ → ℕ → Option ℕ → Type 0
TellsFrom Right from count None = (k : ℕ) → from ≤ k → k < count → Right k
TellsFrom Right from count (Some n) = IsLowestFrom Right from count n
