-- The lists while nodes are tested in rising order: those that are said, and those that were filled in and wait.
use Rattle.std.proofs.Common.{◌≡◌, ℕ, ◌+◌, ◌<◌, ◌≤◌, List, [], length, get_or, replicate, Option, Some, None, true, false, cond, refl, sym, ap, ◌∙◌, subst, arith, inl, inr}
use Rattle.std.specs.Prelude.{◌↔◌, All, Contains, slice_get}
use Rattle.std.proofs.lemmas.Bool.{cases_lt, cases_eq, eq-eqb, ne_eqb}
use Rattle.std.proofs.lemmas.List.{get_or_past, get_or-replicate, length-replicate}
use Rattle.std.proofs.lemmas.Option.{slice_get_within}
use Rattle.rtl_passes_marks.specs.Instruction.{Instruction}
use Rattle.rtl_passes_marks.specs.declared.row.NodeRow.{NodeRow}
use Rattle.rtl_passes_marks.specs.Ranked.{RiseFrom}
use Rattle.rtl_passes_marks.specs.Edges.{edges_of}
use Rattle.rtl_passes_marks.specs.Marks.{feeder, AreFeeders}
use Rattle.rtl_passes_marks.specs.Rows.{place_of}
use Rattle.rtl_passes_marks.specs.Handing.{spread_on, is_fed_by, standing, left_by, feeds_by, handed_on, IsMarkedBy}
use Rattle.rtl_passes_marks.proofs.Fed.{feeder_lower, feeder_edge}
use Rattle.rtl_passes_marks.proofs.Handings.{spread_at, left_count, left_other, handed_count, handed_else, handed_here}
use Rattle.rtl_passes_filled.specs.Rules.{RulesOf, facts_at, LeadsTo, IsRightAs}
use Rattle.rtl_passes_filled.specs.Filled.{behind, filled}
use Rattle.rtl_passes_filled.proofs.Filling.{filled_count, filled_marked, filled_fed}
use Rattle.rtl_passes_filled.proofs.Marked.{AreCarried, filled_rises, fed_leads}
use Rattle.rtl_passes_facts.specs.Handed.{LeadsToMarked, RiseAtMarked, IsRightBy}

same_some : {A : Type 0} (x y : A) → Some x ≡ Some y → x ≡ y
same_some x y e = cc

-- of marked nodes is said what stands there
pub record IsSaid {A : Type 0} (rules : RulesOf A) (entry : ℕ) (nodes : List Instruction) (rows : List (NodeRow A)) (said : List (List A)) : Type 0 where
  pub marked : (s : ℕ) → s < length nodes → feeder entry nodes s ≡ None → facts_at said s ≡ facts_at (filled rules entry nodes rows) s

-- the lists of nodes from n on that lower ones feed
pub record IsWalked {A : Type 0} (rules : RulesOf A) (entry : ℕ) (nodes : List Instruction) (rows : List (NodeRow A)) (lists : List (List A)) (n : ℕ) : Type 0 where
  pub count : length lists ≡ length nodes
  pub ready : (s m : ℕ) → s < length nodes → feeder entry nodes s ≡ Some m → m < n → n ≤ s → facts_at lists s ≡ facts_at (filled rules entry nodes rows) s

module _ {A : Type 0} (rules : RulesOf A) (entry : ℕ) (nodes : List Instruction) (rows : List (NodeRow A)) (feeders : List (Option ℕ)) (told : AreFeeders entry nodes feeders) where
  abbrev pub facts_of : ℕ → List A
  facts_of s = facts_at (filled rules entry nodes rows) s

  -- before the first node
  pub said_first : RiseFrom place_of 0 rows → IsSaid rules entry nodes rows (spread_on rows (replicate (length nodes) []))
  said_first rising = record {
    marked = λ s below marked.
        spread_at rows (replicate (length nodes) []) 0 s rising (omega (arith, length-replicate {A = List A} (length nodes) [], below)) (get_or-replicate (length nodes) s [] [] below)
        ∙ sym (filled_marked rules entry nodes rows s below marked);
  }

  pub walked_first : IsWalked rules entry nodes rows (replicate (length nodes) []) 0
  walked_first = record {
    count = length-replicate (length nodes) [];
    ready = λ s m below fed less le. absurd (omega (arith, less));
  }

  module _ (said lists : List (List A)) (are_said : IsSaid rules entry nodes rows said) (n : ℕ) (within : n < length nodes) (walked : IsWalked rules entry nodes rows lists n) where
    -- what stands at the node
    pub facts_now : standing (slice_get feeders n) said lists n ≡ facts_of n
    facts_now = at (feeder entry nodes n) refl
      where
        at : (o : Option ℕ) → feeder entry nodes n ≡ o → standing (slice_get feeders n) said lists n ≡ facts_of n
        at None e = ap (λ o. standing o said lists n) (told.each n within ∙ ap (λ o. Some o) e) ∙ are_said.marked n within e
        at (Some m) e = ap (λ o. standing o said lists n) (told.each n within ∙ ap (λ o. Some o) e) ∙ walked.ready n m within e (feeder_lower entry nodes n m e) (omega arith)

  module _ (lists : List (List A)) (n : ℕ) (within : n < length nodes) (walked : IsWalked rules entry nodes rows lists n) where
    abbrev pub taken : List (List A)
    taken = left_by (slice_get feeders n) n lists

    taken_count : length taken ≡ length nodes
    taken_count = left_count (slice_get feeders n) n lists ∙ walked.count

    feeds_else : (s m : ℕ) → s < length nodes → feeder entry nodes s ≡ Some m → ¬ (m ≡ n) → feeds_by (slice_get feeders s) n ≡ false
    feeds_else s m below fed other = ap (λ o. feeds_by o n) (told.each s below ∙ ap (λ o. Some o) fed) ∙ ne_eqb m n other

    -- one node on
    pub walked_on : (i : Instruction) → slice_get nodes n ≡ Some i → IsWalked rules entry nodes rows (handed_on feeders n (edges_of i) (behind rules i (facts_of n)) taken) (n + 1)
    walked_on i stands = record {
      count = handed_count feeders n (edges_of i) (behind rules i (facts_of n)) taken ∙ taken_count;
      ready = λ s m below fed less le.
          elim (cases_eq m n) [
            | inl same ↦
                let by_this : feeder entry nodes s ≡ Some n = fed ∙ ap (λ k. Some k) same in
                let feeds : feeds_by (slice_get feeders s) n ≡ true = ap (λ o. feeds_by o n) (told.each s below ∙ ap (λ o. Some o) by_this) ∙ eq-eqb n n refl in
                let edge = feeder_edge entry nodes s n by_this in
                let own : edge.0 ≡ i = same_some edge.0 i (sym edge.1 ∙ stands) in
                handed_here feeders n (edges_of i) s (behind rules i (facts_of n)) taken (omega (arith, taken_count, below)) feeds (subst (λ j. Contains (edges_of j) s) own edge.2)
                ∙ sym (filled_fed rules entry nodes rows s n i below by_this stands)
            | inr other ↦
                handed_else feeders n (edges_of i) s (behind rules i (facts_of n)) taken (feeds_else s m below fed other)
                ∙ left_other (slice_get feeders n) n s lists (λ (e : s ≡ n). absurd (omega (arith, e, le)))
                ∙ walked.ready s m below fed (omega (arith, less, other)) (omega (arith, le))
          ];
    }

  -- ---- what is tested

  marked_by : (s : ℕ) → IsMarkedBy feeders s → (s < length nodes) × (feeder entry nodes s ≡ None)
  marked_by s by =
      let below : s < length nodes = omega (arith, slice_get_within feeders s None by, told.count) in
      (below, same_some (feeder entry nodes s) None (sym (told.each s below) ∙ by))

  module _ (carried : AreCarried rules) (rising : All (λ (row : NodeRow A). RiseFrom rules.rank 0 row.entries) rows) where
    pub rise_marked : (said : List (List A)) → IsSaid rules entry nodes rows said → RiseAtMarked rules feeders said
    rise_marked said are_said s by =
        let m = marked_by s by in
        subst (RiseFrom rules.rank 0) (sym (are_said.marked s m.0 m.1)) (filled_rises rules carried entry nodes rows rising s)

    pub rise_now : (n : ℕ) → RiseFrom rules.rank 0 (facts_of n)
    rise_now n = filled_rises rules carried entry nodes rows rising n

    module _ (said : List (List A)) (are_said : IsSaid rules entry nodes rows said) (n : ℕ) (i o : Instruction) (stands : slice_get nodes n ≡ Some i) where
      leads_all : All (LeadsToMarked rules feeders said (facts_of n) i) (rules.edges i (facts_of n)) → All (LeadsTo rules (filled rules entry nodes rows) (facts_of n) i) (rules.edges i (facts_of n))
      leads_all tested k s within = at (feeder entry nodes there) refl
        where
          there : ℕ
          there = get_or (rules.edges i (facts_of n)) k s

          at : (o : Option ℕ) → feeder entry nodes there ≡ o → LeadsTo rules (filled rules entry nodes rows) (facts_of n) i there
          at None marked =
              elim (cases_lt there (length nodes)) [
                | inl below ↦
                    let leads : LeadsTo rules said (facts_of n) i there = tested k s within (told.each there below ∙ ap (λ o. Some o) marked) in
                    record { known = subst (All (rules.IsKnown i (facts_of n))) (are_said.marked there below marked) leads.known }
                | inr past ↦
                    let none : facts_of there ≡ [] = get_or_past (filled rules entry nodes rows) there [] (omega (arith, filled_count rules entry nodes rows (length nodes), past)) in
                    record { known = subst (All (rules.IsKnown i (facts_of n))) (sym none) (λ k d below. absurd (omega (arith, below))) }
              ]
          at (Some m) fed = fed_leads rules carried entry nodes rows rising n i stands there m (carried.along i (facts_of n) k s within) fed

      leads_some : All (LeadsTo rules (filled rules entry nodes rows) (facts_of n) i) (rules.edges i (facts_of n)) → All (LeadsToMarked rules feeders said (facts_of n) i) (rules.edges i (facts_of n))
      leads_some all k s within by =
          let m = marked_by (get_or (rules.edges i (facts_of n)) k s) by in
          record { known = subst (All (rules.IsKnown i (facts_of n))) (sym (are_said.marked (get_or (rules.edges i (facts_of n)) k s) m.0 m.1)) (all k s within).known }

      -- it tells whether the node keeps the rules
      pub right_exactly : IsRightBy rules entry feeders said (facts_of n) n i o ↔ IsRightAs rules entry (filled rules entry nodes rows) n i o
      right_exactly = (
        λ by. record { entry = by.entry; leads = leads_all by.leads; becomes = by.becomes },
        λ right. record { entry = right.entry; leads = leads_some right.leads; becomes = right.becomes },
      )
