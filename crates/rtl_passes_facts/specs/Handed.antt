-- What is asked of a node whose facts were handed to it: edges to marked nodes alone tell.
use Rattle.std.specs.Prelude.{◌≡◌, ℕ, List, [], Option, All, slice_get}
use Rattle.rtl_passes_marks.specs.Instruction.{Instruction}
use Rattle.rtl_passes_marks.specs.Function.{FunctionData}
use Rattle.rtl_passes_marks.specs.declared.row.NodeRow.{NodeRow}
use Rattle.rtl_passes_marks.specs.Ranked.{RiseFrom}
use Rattle.rtl_passes_marks.specs.Edges.{edges_of}
use Rattle.rtl_passes_marks.specs.Rows.{AreRows}
use Rattle.rtl_passes_marks.specs.Handing.{standing, left_by, handed_on, IsMarkedBy}
use Rattle.rtl_passes_filled.specs.Rules.{RulesOf, facts_at, IsInOrder, LeadsTo, MayBecome, IsRightAt}
use Rattle.rtl_passes_filled.specs.Filled.{behind, filled_in}

-- rows that have their form, for this input
abbrev pub AreInOrder : {A : Type 0} → RulesOf A → FunctionData → List (NodeRow A) → Type 0
AreInOrder rules input rows = AreRows (IsInOrder rules input.registers) input.entry input.nodes rows

-- the node keeps the rules with what the rows are filled to
abbrev pub IsRightFilled : {A : Type 0} → RulesOf A → FunctionData → FunctionData → List (NodeRow A) → ℕ → Type 0
IsRightFilled rules input output rows n = IsRightAt rules input output (filled_in rules input rows) n

-- what stands at this node, and the lists where it was taken
abbrev pub standing_at : {A : Type 0} → List (Option ℕ) → List (List A) → List (List A) → ℕ → List A
standing_at feeders said lists n = standing (slice_get feeders n) said lists n

abbrev pub left_at : {A : Type 0} → List (Option ℕ) → ℕ → List (List A) → List (List A)
left_at feeders n lists = left_by (slice_get feeders n) n lists

-- behind the instruction, the facts at a node are known if it is marked
abbrev pub LeadsToMarked : {A : Type 0} → RulesOf A → List (Option ℕ) → List (List A) → List A → Instruction → ℕ → Type 0
LeadsToMarked rules feeders said facts i s = IsMarkedBy feeders s → LeadsTo rules said facts i s

-- so it is at each node where it can go on
abbrev pub LeadsOnMarked : {A : Type 0} → RulesOf A → List (Option ℕ) → List (List A) → List A → Instruction → Type 0
LeadsOnMarked rules feeders said facts i = All (LeadsToMarked rules feeders said facts i) (rules.edges i facts)

-- at marked nodes facts are in order
abbrev pub RiseAtMarked : {A : Type 0} → RulesOf A → List (Option ℕ) → List (List A) → Type 0
RiseAtMarked rules feeders said = (s : ℕ) → IsMarkedBy feeders s → RiseFrom rules.rank 0 (facts_at said s)

-- a node keeps the rules where these facts stand at it, as far as edges to marked nodes tell
pub record IsRightBy {A : Type 0} (rules : RulesOf A) (first : ℕ) (feeders : List (Option ℕ)) (said : List (List A)) (facts : List A) (n : ℕ) (i o : Instruction) : Type 0 where
  pub entry : n ≡ first → facts ≡ []
  pub leads : LeadsOnMarked rules feeders said facts i
  pub becomes : MayBecome rules facts i o

-- what is known behind these facts was handed on to the nodes that this one feeds
abbrev pub IsHandedBehind : {A : Type 0} → RulesOf A → List (Option ℕ) → ℕ → Instruction → List A → List (List A) → List (List A) → Type 0
IsHandedBehind rules feeders n i facts old new = new ≡ handed_on feeders n (edges_of i) (behind rules i facts) old

-- so where what stands at the node was taken
abbrev pub IsHandedOn : {A : Type 0} → RulesOf A → List (Option ℕ) → List (List A) → ℕ → Instruction → List (List A) → List (List A) → Type 0
IsHandedOn rules feeders said n i old new =
    IsHandedBehind rules feeders n i (standing_at feeders said old n) (left_at feeders n old) new
