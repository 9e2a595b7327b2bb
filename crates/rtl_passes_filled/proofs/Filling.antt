-- The lists that rows are filled to.
use Rattle.std.proofs.Common.{◌≡◌, ℕ, zero, suc, ◌+◌, ◌<◌, ◌≤◌, List, [], ◌∷◌, ◌++◌, length, get_or, Option, Some, None, Bool, true, false, cond, eqb, refl, sym, ap, ◌∙◌, subst, arith, inl, inr}
use Rattle.std.specs.Prelude.{◌⊎◌, All, slice_get}
use Rattle.std.proofs.lemmas.Bool.{cases_lt, cases_eq}
use Rattle.std.proofs.lemmas.List.{get_or_past, get_or_append_left, get_or-append-add, length-append}
use Rattle.std.proofs.lemmas.List.Elements.{All-cons, All-tail}
use Rattle.std.proofs.lemmas.Option.{slice_get_within}
use Rattle.rtl_passes_marks.specs.Instruction.{Instruction}
use Rattle.rtl_passes_marks.specs.declared.row.NodeRow.{NodeRow}
use Rattle.rtl_passes_marks.specs.Marks.{feeder}
use Rattle.rtl_passes_marks.specs.Rows.{entries_at}
use Rattle.rtl_passes_marks.proofs.Fed.{feeder_lower}
use Rattle.rtl_passes_filled.specs.Rules.{RulesOf, facts_at}
use Rattle.rtl_passes_filled.specs.Filled.{behind, behind_at, list_by, list_of, first_filled, filled}

-- what holds of nothing and of each row holds of what a row says at a node
pub entries_have : {A : Type 0} (P : List A → Type 0) (rows : List (NodeRow A)) → P [] → All (λ (row : NodeRow A). P row.entries) rows → (n : ℕ) → P (entries_at rows n)
entries_have P [] none all n = none
entries_have {A} P (row ∷ rows) none all n = at (eqb row.node n) (entries_have P rows none (All-tail (λ (r : NodeRow A). P r.entries) row rows all) n)
  where
    at : (b : Bool) → P (entries_at rows n) → P (cond b row.entries (entries_at rows n))
    at true later = all 0 row (omega arith)
    at false later = later

module _ {A : Type 0} (rules : RulesOf A) (entry : ℕ) (nodes : List Instruction) (rows : List (NodeRow A)) where
  abbrev lists_to : ℕ → List (List A)
  lists_to k = first_filled rules entry nodes rows k

  abbrev next_at : ℕ → List A
  next_at k = list_of rules entry nodes rows k (lists_to k)

  pub filled_count : (k : ℕ) → length (lists_to k) ≡ k
  filled_count zero = refl
  filled_count (suc k) = length-append (lists_to k) (next_at k ∷ []) ∙ omega (arith, filled_count k)

  own_at : (m k : ℕ) → m < k → facts_at (lists_to k) m ≡ next_at m
  own_at m zero less = absurd (omega (arith, less))
  own_at m (suc k) less =
      elim (cases_lt m k) [
        | inl below ↦ get_or_append_left (lists_to k) (next_at k ∷ []) [] m (omega (arith, filled_count k, below)) ∙ own_at m k below
        | inr not_below ↦
            let same : m ≡ k = omega (arith, less, not_below) in
            let place : k ≡ length (lists_to k) + 0 = omega (arith, filled_count k) in
            ap (facts_at (lists_to (suc k))) (same ∙ place) ∙ get_or-append-add (lists_to k) (next_at k ∷ []) 0 [] ∙ ap next_at (sym same)
      ]

  -- at a marked node the row's facts stand
  pub filled_marked : (s : ℕ) → s < length nodes → feeder entry nodes s ≡ None → facts_at (filled rules entry nodes rows) s ≡ entries_at rows s
  filled_marked s below marked = own_at s (length nodes) below ∙ ap (λ o. list_by rules nodes o (entries_at rows s) (lists_to s)) marked

  -- at another what is known behind the one that feeds it
  pub filled_fed : (s m : ℕ) (i : Instruction) → s < length nodes → feeder entry nodes s ≡ Some m → slice_get nodes m ≡ Some i → facts_at (filled rules entry nodes rows) s ≡ behind rules i (facts_at (filled rules entry nodes rows) m)
  filled_fed s m i below fed stands =
      let less : m < s = feeder_lower entry nodes s m fed in
      let before : facts_at (lists_to s) m ≡ facts_at (filled rules entry nodes rows) m = own_at m s less ∙ sym (own_at m (length nodes) (omega (arith, less, below))) in
      own_at s (length nodes) below
      ∙ ap (λ o. list_by rules nodes o (entries_at rows s) (lists_to s)) fed
      ∙ ap (λ o. behind_at rules o (facts_at (lists_to s) m)) stands
      ∙ ap (behind rules i) before

  -- what holds of nothing, of each row and of what is known behind it holds of all
  module _ (P : List A → Type 0) (none : P []) (own : All (λ (row : NodeRow A). P row.entries) rows) (on : (n : ℕ) (i : Instruction) → slice_get nodes n ≡ Some i → (before : List A) → P before → P (behind rules i before)) where
    at_each : (lists : List (List A)) → All P lists → (n : ℕ) → P (facts_at lists n)
    at_each lists all n =
        elim (cases_lt n (length lists)) [
          | inl below ↦ all n [] below
          | inr past ↦ subst P (sym (get_or_past lists n [] past)) none
        ]

    next_has : (k : ℕ) → All P (lists_to k) → P (next_at k)
    next_has k all = at (feeder entry nodes k)
      where
        behind_has : (n : ℕ) (o : Option Instruction) → slice_get nodes n ≡ o → P (behind_at rules o (facts_at (lists_to k) n))
        behind_has n None e = none
        behind_has n (Some i) e = on n i e (facts_at (lists_to k) n) (at_each (lists_to k) all n)

        at : (o : Option ℕ) → P (list_by rules nodes o (entries_at rows k) (lists_to k))
        at None = entries_have P rows none own k
        at (Some n) = behind_has n (slice_get nodes n) refl

    first_have : (k : ℕ) → All P (lists_to k)
    first_have zero = λ m d below. absurd (omega (arith, below))
    first_have (suc k) = λ m d below.
        elim (cases_lt m k) [
          | inl less ↦ subst P (sym (get_or_append_left (lists_to k) (next_at k ∷ []) d m (omega (arith, filled_count k, less)))) (first_have k m d (omega (arith, filled_count k, less)))
          | inr not_less ↦
              let place : m ≡ length (lists_to k) + 0 = omega (arith, filled_count k, not_less, filled_count (suc k), below) in
              subst P (sym (ap (λ j. get_or (lists_to (suc k)) j d) place ∙ get_or-append-add (lists_to k) (next_at k ∷ []) 0 d)) (next_has k (first_have k))
        ]

    pub filled_have : All P (filled rules entry nodes rows)
    filled_have = first_have (length nodes)

    pub filled_has : (n : ℕ) → P (facts_at (filled rules entry nodes rows) n)
    filled_has = at_each (filled rules entry nodes rows) filled_have
