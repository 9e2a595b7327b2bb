-- Rows in order, and the input itself with no rows.
use Rattle.std.proofs.Common.{◌≡◌, ℕ, List, [], length, get_or, Option, Some, None, refl, sym, ap, ◌∙◌, subst, arith, inl, inr}
use Rattle.std.specs.Prelude.{◌↔◌, All, Contains, slice_get}
use Rattle.std.specs.List.{AllByRecursion}
use Rattle.std.proofs.lemmas.List.{get_or_past}
use Rattle.std.proofs.lemmas.List.Elements.{recursion_from_All}
use Rattle.std.proofs.lemmas.Bool.{cases_lt}
use Rattle.rtl_passes_marks.specs.Instruction.{Instruction}
use Rattle.rtl_passes_marks.specs.Function.{FunctionData}
use Rattle.rtl_passes_marks.specs.declared.row.NodeRow.{NodeRow}
use Rattle.rtl_passes_marks.specs.Ranked.{RiseFrom}
use Rattle.rtl_passes_marks.specs.Edges.{edges_of}
use Rattle.rtl_passes_marks.specs.Marks.{feeder}
use Rattle.rtl_passes_marks.specs.Rows.{AreRows}
use Rattle.rtl_passes_marks.proofs.Fed.{entry_marked}
use Rattle.rtl_passes_filled.specs.Rules.{RulesOf, IsInOrder, facts_at, LeadsTo, IsRightAs}
use Rattle.rtl_passes_filled.specs.Filled.{filled}
use Rattle.rtl_passes_filled.specs.Accepted.{IsAccepted}
use Rattle.rtl_passes_filled.proofs.Filling.{filled_count, filled_marked}
use Rattle.rtl_passes_filled.proofs.Marked.{AreCarried, fed_leads}

module _ {A : Type 0} (rules : RulesOf A) (registers : ℕ) (ranked : (facts : List A) → AllByRecursion (rules.Fits registers) facts → rules.Rise facts ↔ RiseFrom rules.rank 0 facts) where
  -- lists in order rise by their ranks
  pub order_rises : (facts : List A) → IsInOrder rules registers facts → RiseFrom rules.rank 0 facts
  order_rises facts in_order = (ranked facts (recursion_from_All (rules.Fits registers) facts in_order.each)).0 in_order.rising

  pub rows_rise : (entry : ℕ) (nodes : List Instruction) (rows : List (NodeRow A)) → AreRows (IsInOrder rules registers) entry nodes rows → All (λ (row : NodeRow A). RiseFrom rules.rank 0 row.entries) rows
  rows_rise entry nodes rows are = λ k d below. order_rises (get_or rows k d).entries (are.each k d below).in_order

-- ---- no rows

module _ {A : Type 0} (rules : RulesOf A) (carried : AreCarried rules) (entry : ℕ) (nodes : List Instruction) where
  abbrev no_rows : List (NodeRow A)
  no_rows = []

  abbrev lists : List (List A)
  lists = filled rules entry nodes no_rows

  -- nothing stands at a marked node
  none_at : (s : ℕ) → feeder entry nodes s ≡ None → facts_at lists s ≡ []
  none_at s marked =
      elim (cases_lt s (length nodes)) [
        | inl below ↦ filled_marked rules entry nodes no_rows s below marked
        | inr past ↦ get_or_past lists s [] (omega (arith, filled_count rules entry nodes no_rows (length nodes), past))
      ]

  none_leads : (n : ℕ) (i : Instruction) → slice_get nodes n ≡ Some i → (s : ℕ) → Contains (edges_of i) s → LeadsTo rules lists (facts_at lists n) i s
  none_leads n i stands s edge = at (feeder entry nodes s) refl
    where
      at : (o : Option ℕ) → feeder entry nodes s ≡ o → LeadsTo rules lists (facts_at lists n) i s
      at None marked = record { known = subst (All (rules.IsKnown i (facts_at lists n))) (sym (none_at s marked)) (λ k d below. absurd (omega (arith, below))) }
      at (Some m) fed = fed_leads rules carried entry nodes no_rows (λ k d below. absurd (omega (arith, below))) n i stands s m edge fed

  none_right : (n : ℕ) (i o : Instruction) → slice_get nodes n ≡ Some i → slice_get nodes n ≡ Some o → IsRightAs rules entry lists n i o
  none_right n i o e e' = record {
    entry = λ first. none_at n (subst (λ k. feeder entry nodes k ≡ None) (sym first) (entry_marked entry nodes));
    leads = λ k s within. none_leads n i e (get_or (rules.edges i (facts_at lists n)) k s) (carried.along i (facts_at lists n) k s within);
    becomes = inl (let same : o ≡ i = cc in same);
  }

-- the input itself is accepted with no rows
pub none_accepted : {A : Type 0} (rules : RulesOf A) (carried : AreCarried rules) (input : FunctionData) → IsAccepted rules input input []
none_accepted rules carried input = record {
  shape = record {
    same = record { parameters = refl; registers = refl; entry = refl; nodes = refl };
    form = record { each = λ k d below. absurd (omega (arith, below)); rising = tt };
  };
  nodes = λ n below. none_right rules carried input.entry input.nodes n;
}
