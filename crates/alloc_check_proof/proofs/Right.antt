-- Lists that are told from accepted rows are right, and name locations that are there.
use Rattle.std.proofs.Common.{◌≡◌, ℕ, zero, suc, ◌<◌, List, [], ◌∷◌, length, get_or, Bool, true, false, cond, refl, arith}
use Rattle.std.specs.Prelude.{All, nat_eq}
use Rattle.std.proofs.lemmas.List.Elements.{All-nil, All-weaker, All-head, All-tail}
use Rattle.rtl_language.specs.declared.instruction.Instruction.{Instruction}
use Rattle.rtl_language.specs.Function as rtl
use Rattle.ltl.specs.Function as ltl
use Rattle.rtl_passes_marks.specs.declared.row.NodeRow.{NodeRow}
use Rattle.rtl_passes_marks.specs.Rows.{entries_at, IsRow, AreRows}
use Rattle.alloc_check_rules.specs.declared.equation.Equation.{Equation}
use Rattle.alloc_check_rules.specs.Rules.{EquationFits, IsInOrder}
use Rattle.alloc_check_fill.specs.Right.{HasPlace, AreRight}
use Rattle.alloc_check_fill.proofs.Places.{filled_there}
use Rattle.alloc_check_proof.specs.Allocated.{is_marked, filled, IsAllocated}

-- what holds of each row's entries and of none holds at each node
pub at_rows : (P : List Equation → Type 0) (InOrder : List Equation → Type 0) (entry : ℕ) (nodes : List Instruction) → P [] → ((es : List Equation) → InOrder es → P es) → (rows : List (NodeRow Equation)) → All (IsRow InOrder entry nodes) rows → (n : ℕ) → P (entries_at rows n)
at_rows P InOrder entry nodes none some [] all n = none
at_rows P InOrder entry nodes none some (row ∷ rows) all n = at (nat_eq row.node n) (at_rows P InOrder entry nodes none some rows (All-tail (IsRow InOrder entry nodes) row rows all) n)
  where
    at : (b : Bool) → P (entries_at rows n) → P (cond b row.entries (entries_at rows n))
    at true later = some row.entries (All-head (IsRow InOrder entry nodes) row rows all).in_order
    at false later = later

pub right_from : (input : rtl.FunctionData) (output : ltl.FunctionData) (rows : List (NodeRow Equation)) → rtl.IsFunction input → ltl.IsFunction output → IsAllocated input output rows → AreRight input output (filled input output rows)
right_from input output rows fits also accepted = record {
  shape = accepted.shape.shape;
  each = filled_there output.slots (length output.blocks) (is_marked input) (entries_at rows)
      (at_rows (All (HasPlace output.slots)) (IsInOrder input.registers output.slots) input.entry input.nodes (All-nil (HasPlace output.slots))
      (λ es in_order. All-weaker (EquationFits input.registers output.slots) (HasPlace output.slots) (λ e there. record { location = there.1 }) es in_order.each)
      rows accepted.shape.at_marked.each)
      input.nodes output.blocks also.each;
  nodes = accepted.nodes;
}
