-- Where an edge leads to a node that is not marked, the facts there are known.
use Rattle.std.proofs.Common.{◌≡◌, ℕ, zero, suc, ◌<◌, ◌≤◌, List, [], ◌∷◌, length, get_or, Option, Some, None, Bool, true, false, refl, sym, ap, ◌∙◌, subst, arith, inl, inr}
use Rattle.std.specs.Prelude.{◌↔◌, All, Contains, slice_get}
use Rattle.std.proofs.lemmas.Bool.{cases_lt}
use Rattle.std.proofs.lemmas.List.{get_or_past}
use Rattle.rtl_passes_marks.specs.Instruction.{Instruction}
use Rattle.rtl_passes_marks.specs.declared.row.NodeRow.{NodeRow}
use Rattle.rtl_passes_marks.specs.Ranked.{RiseFrom}
use Rattle.rtl_passes_marks.specs.Edges.{edges_of}
use Rattle.rtl_passes_marks.specs.Marks.{feeder}
use Rattle.rtl_passes_marks.specs.Rows.{entries_at}
use Rattle.rtl_passes_marks.proofs.Fed.{feeder_same}
use Rattle.rtl_passes_filled.specs.Known.{IsMadeOrKept}
use Rattle.rtl_passes_filled.specs.Rules.{RulesOf, facts_at, LeadsTo}
use Rattle.rtl_passes_filled.specs.Filled.{behind, filled}
use Rattle.rtl_passes_filled.proofs.Carrying.{rise_behind, all_behind}
use Rattle.rtl_passes_filled.proofs.Filling.{filled_count, filled_marked, filled_fed, filled_has}

-- What the filled lists of a pass are right by: an instruction goes on along its edges alone, and among facts in order
-- what it makes, and what it keeps of them, is known behind it.
pub record AreCarried {A : Type 0} (rules : RulesOf A) : Type 0 where
  pub along : (i : Instruction) (facts : List A) → All (Contains (edges_of i)) (rules.edges i facts)
  pub known : (i : Instruction) (before : List A) (fact : A) → RiseFrom rules.rank 0 before → IsMadeOrKept (rules.made i before) (rules.keeps i) before fact → rules.IsKnown i before fact

module _ {A : Type 0} (rules : RulesOf A) (carried : AreCarried rules) (entry : ℕ) (nodes : List Instruction) (rows : List (NodeRow A)) (rising : All (λ (row : NodeRow A). RiseFrom rules.rank 0 row.entries) rows) where
  -- the filled lists are in order
  pub filled_rises : (n : ℕ) → RiseFrom rules.rank 0 (facts_at (filled rules entry nodes rows) n)
  filled_rises = filled_has rules entry nodes rows (RiseFrom rules.rank 0) tt rising (λ n i e before rise. rise_behind rules i before rise)

  abbrev facts_of : ℕ → List A
  facts_of n = facts_at (filled rules entry nodes rows) n

  -- what is filled on is known
  pub fed_leads : (n : ℕ) (i : Instruction) → slice_get nodes n ≡ Some i → (s m : ℕ) → Contains (edges_of i) s → feeder entry nodes s ≡ Some m → LeadsTo rules (filled rules entry nodes rows) (facts_of n) i s
  fed_leads n i stands s m edge fed =
      elim (cases_lt s (length nodes)) [
        | inl below ↦
            let same : m ≡ n = feeder_same entry nodes s m n i fed stands edge in
            let is : facts_of s ≡ behind rules i (facts_of n) = filled_fed rules entry nodes rows s n i below (fed ∙ ap (λ k. Some k) same) stands in
            record { known = subst (All (rules.IsKnown i (facts_of n))) (sym is) (all_behind rules (rules.IsKnown i (facts_of n)) i (facts_of n) (λ fact either. carried.known i (facts_of n) fact (filled_rises n) either)) }
        | inr past ↦
            let none : facts_of s ≡ [] = get_or_past (filled rules entry nodes rows) s [] (omega (arith, filled_count rules entry nodes rows (length nodes), past)) in
            record { known = subst (All (rules.IsKnown i (facts_of n))) (sym none) (λ k d below. absurd (omega (arith, below))) }
      ]
