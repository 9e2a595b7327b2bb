-- The facts at each node, where a certificate has rows at marked nodes alone: those at another node are what is known
-- behind the one that feeds it, whether or not the edge can be taken. Filled lists have no limit of length.
use Rattle.std.specs.Prelude.{ℕ, zero, suc, List, [], ◌∷◌, ◌++◌, length, Option, Some, None, slice_get, nat_lt, if◌then◌else◌}
use Rattle.std.specs.List.{filter}
use Rattle.rtl_passes_marks.specs.Instruction.{Instruction}
use Rattle.rtl_passes_marks.specs.Function.{FunctionData}
use Rattle.rtl_passes_marks.specs.declared.row.NodeRow.{NodeRow}
use Rattle.rtl_passes_marks.specs.Marks.{feeder}
use Rattle.rtl_passes_marks.specs.Rows.{entries_at}
use Rattle.rtl_passes_filled.specs.Rules.{RulesOf, facts_at}

-- one put at its place among those in order, for the one that stands there if any does
abbrev pub put_in : {A : Type 0} → (A → ℕ) → A → List A → List A
put_in rank x [] = x ∷ []
put_in rank x (y ∷ ys) = if nat_lt (rank y) (rank x) then y ∷ put_in rank x ys else if nat_lt (rank x) (rank y) then x ∷ y ∷ ys else x ∷ ys

abbrev pub with_made : {A : Type 0} → (A → ℕ) → Option A → List A → List A
with_made rank None kept = kept
with_made rank (Some fact) kept = put_in rank fact kept

-- what is known behind an instruction where these are known before it: what it keeps of them, and what it makes known
abbrev pub behind : {A : Type 0} → RulesOf A → Instruction → List A → List A
behind rules i before = with_made rules.rank (rules.made i before) (filter (rules.keeps i) before)

abbrev pub behind_at : {A : Type 0} → RulesOf A → Option Instruction → List A → List A
behind_at rules None before = []
behind_at rules (Some i) before = behind rules i before

-- the list of a node fed so, or with this row, where those of the nodes below it are filled
abbrev pub list_by : {A : Type 0} → RulesOf A → List Instruction → Option ℕ → List A → List (List A) → List A
list_by rules nodes None own lists = own
list_by rules nodes (Some n) own lists = behind_at rules (slice_get nodes n) (facts_at lists n)

abbrev pub list_of : {A : Type 0} → RulesOf A → ℕ → List Instruction → List (NodeRow A) → ℕ → List (List A) → List A
list_of rules entry nodes rows s lists = list_by rules nodes (feeder entry nodes s) (entries_at rows s) lists

-- the lists of so many nodes, in rising order
abbrev pub first_filled : {A : Type 0} → RulesOf A → ℕ → List Instruction → List (NodeRow A) → ℕ → List (List A)
first_filled rules entry nodes rows zero = []
first_filled rules entry nodes rows (suc k) =
    first_filled rules entry nodes rows k ++ list_of rules entry nodes rows k (first_filled rules entry nodes rows k) ∷ []

abbrev pub filled : {A : Type 0} → RulesOf A → ℕ → List Instruction → List (NodeRow A) → List (List A)
filled rules entry nodes rows = first_filled rules entry nodes rows (length nodes)

abbrev pub filled_in : {A : Type 0} → RulesOf A → FunctionData → List (NodeRow A) → List (List A)
filled_in rules input rows = filled rules input.entry input.nodes rows
