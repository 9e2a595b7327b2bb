-- What stands at a node while lists are handed on.
use Rattle.std.proofs.Common.{◌≡◌, ℕ, zero, suc, ◌<◌, ◌≤◌, List, [], ◌∷◌, length, get_or, replicate, Option, Some, None, Bool, true, false, cond, eqb, refl, sym, ap, ◌∙◌, subst, arith, inl, inr}
use Rattle.std.specs.Prelude.{◌⊎◌, ◌||◌, Contains, slice_get, slice_set}
use Rattle.std.proofs.lemmas.Bool.{eqb-true, eq-eqb, cases_eq}
use Rattle.std.proofs.lemmas.List.{get_or-set_same, get_or-set_other, length-set}
use Rattle.rtl_passes_marks.specs.declared.row.NodeRow.{NodeRow}
use Rattle.rtl_passes_marks.specs.Ranked.{RiseFrom}
use Rattle.rtl_passes_marks.specs.Rows.{place_of, entries_at}
use Rattle.rtl_passes_marks.specs.Handing.{spread_on, left_by, feeds_by, feeds_one, handed_to, handed_on}

module _ {A : Type 0} where
  -- ---- rows that are spread

  pub spread_count : (rows : List (NodeRow A)) (lists : List (List A)) → length (spread_on rows lists) ≡ length lists
  spread_count [] lists = refl
  spread_count (row ∷ rows) lists = spread_count rows (slice_set lists row.node row.entries) ∙ length-set lists row.node row.entries

  -- below the rows nothing changes
  spread_below : (rows : List (NodeRow A)) (lists : List (List A)) (lower s : ℕ) → RiseFrom place_of lower rows → s < lower → get_or (spread_on rows lists) s [] ≡ get_or lists s []
  spread_below [] lists lower s rise less = refl
  spread_below (row ∷ rows) lists lower s rise less =
      spread_below rows (slice_set lists row.node row.entries) (suc row.node) s rise.1 (omega (arith, less, rise.0))
      ∙ get_or-set_other lists row.node s row.entries [] (λ (e : s ≡ row.node). absurd (omega (arith, e, less, rise.0)))

  -- and where nothing stood there is what the rows say
  pub spread_at : (rows : List (NodeRow A)) (lists : List (List A)) (lower s : ℕ) → RiseFrom place_of lower rows → s < length lists → get_or lists s [] ≡ [] → get_or (spread_on rows lists) s [] ≡ entries_at rows s
  spread_at [] lists lower s rise below none = none
  spread_at (row ∷ rows) lists lower s rise below none = at (eqb row.node s) refl (spread_at rows (slice_set lists row.node row.entries) (suc row.node) s rise.1 (omega (arith, length-set lists row.node row.entries, below)))
    where
      at : (b : Bool) → eqb row.node s ≡ b → (get_or (slice_set lists row.node row.entries) s [] ≡ [] → get_or (spread_on rows (slice_set lists row.node row.entries)) s [] ≡ entries_at rows s) → get_or (spread_on rows (slice_set lists row.node row.entries)) s [] ≡ cond b row.entries (entries_at rows s)
      at true e later =
          let same : row.node ≡ s = eqb-true row.node s e in
          spread_below rows (slice_set lists row.node row.entries) (suc row.node) s rise.1 (omega (arith, same))
          ∙ subst (λ k. get_or (slice_set lists row.node row.entries) k [] ≡ row.entries) same (get_or-set_same lists row.node row.entries [] (omega (arith, same, below)))
      at false e later =
          later (get_or-set_other lists row.node s row.entries [] (λ (is : s ≡ row.node). absurd (let yes : eqb row.node s ≡ true = eq-eqb row.node s (sym is) in cc)) ∙ none)

  -- ---- a list that was taken

  pub left_count : (o : Option (Option ℕ)) (n : ℕ) (lists : List (List A)) → length (left_by o n lists) ≡ length lists
  left_count None n lists = refl
  left_count (Some None) n lists = refl
  left_count (Some (Some m)) n lists = length-set lists n []

  pub left_other : (o : Option (Option ℕ)) (n s : ℕ) (lists : List (List A)) → ¬ (s ≡ n) → get_or (left_by o n lists) s [] ≡ get_or lists s []
  left_other None n s lists other = refl
  left_other (Some None) n s lists other = refl
  left_other (Some (Some m)) n s lists other = get_or-set_other lists n s [] [] other

  -- ---- a list that was handed on

  to_count : (feeders : List (Option ℕ)) (n t : ℕ) (facts : List A) (lists : List (List A)) → length (handed_to feeders n t facts lists) ≡ length lists
  to_count feeders n t facts lists = at (feeds_by (slice_get feeders t) n)
    where
      at : (b : Bool) → length (cond b (slice_set lists t facts) lists) ≡ length lists
      at true = length-set lists t facts
      at false = refl

  pub handed_count : (feeders : List (Option ℕ)) (n : ℕ) (ts : List ℕ) (facts : List A) (lists : List (List A)) → length (handed_on feeders n ts facts lists) ≡ length lists
  handed_count feeders n [] facts lists = refl
  handed_count feeders n (t ∷ ts) facts lists = handed_count feeders n ts facts (handed_to feeders n t facts lists) ∙ to_count feeders n t facts lists

  -- where it is not this node that feeds the other nothing changes
  to_else : (feeders : List (Option ℕ)) (n t s : ℕ) (facts : List A) (lists : List (List A)) → feeds_by (slice_get feeders s) n ≡ false → get_or (handed_to feeders n t facts lists) s [] ≡ get_or lists s []
  to_else feeders n t s facts lists not_fed = at (feeds_by (slice_get feeders t) n) refl
    where
      at : (b : Bool) → feeds_by (slice_get feeders t) n ≡ b → get_or (cond b (slice_set lists t facts) lists) s [] ≡ get_or lists s []
      at true fed = get_or-set_other lists t s facts [] (λ (e : s ≡ t). absurd (let no : false ≡ true = sym not_fed ∙ ap (λ k. feeds_by (slice_get feeders k) n) e ∙ fed in cc))
      at false fed = refl

  pub handed_else : (feeders : List (Option ℕ)) (n : ℕ) (ts : List ℕ) (s : ℕ) (facts : List A) (lists : List (List A)) → feeds_by (slice_get feeders s) n ≡ false → get_or (handed_on feeders n ts facts lists) s [] ≡ get_or lists s []
  handed_else feeders n [] s facts lists not_fed = refl
  handed_else feeders n (t ∷ ts) s facts lists not_fed = handed_else feeders n ts s facts (handed_to feeders n t facts lists) not_fed ∙ to_else feeders n t s facts lists not_fed

  -- where it feeds none of them all stays
  pub handed_none : (feeders : List (Option ℕ)) (n : ℕ) (ts : List ℕ) (facts : List A) (lists : List (List A)) → feeds_one feeders n ts ≡ false → handed_on feeders n ts facts lists ≡ lists
  handed_none feeders n [] facts lists none = refl
  handed_none feeders n (t ∷ ts) facts lists none = at (feeds_by (slice_get feeders t) n) none (handed_none feeders n ts facts lists)
    where
      at : (b : Bool) → (b || feeds_one feeders n ts) ≡ false → (feeds_one feeders n ts ≡ false → handed_on feeders n ts facts lists ≡ lists) → handed_on feeders n ts facts (cond b (slice_set lists t facts) lists) ≡ lists
      at true none later = cc (none)
      at false none later = later none

  -- a node that it feeds gets the list, and keeps it
  to_keeps : (feeders : List (Option ℕ)) (n t s : ℕ) (facts : List A) (lists : List (List A)) → s < length lists → get_or lists s [] ≡ facts → get_or (handed_to feeders n t facts lists) s [] ≡ facts
  to_keeps feeders n t s facts lists below is = at (feeds_by (slice_get feeders t) n)
    where
      at : (b : Bool) → get_or (cond b (slice_set lists t facts) lists) s [] ≡ facts
      at true =
          elim (cases_eq s t) [
            | inl same ↦ subst (λ k. get_or (slice_set lists t facts) k [] ≡ facts) (sym same) (get_or-set_same lists t facts [] (omega (arith, same, below)))
            | inr other ↦ get_or-set_other lists t s facts [] other ∙ is
          ]
      at false = is

  handed_keeps : (feeders : List (Option ℕ)) (n : ℕ) (ts : List ℕ) (s : ℕ) (facts : List A) (lists : List (List A)) → s < length lists → get_or lists s [] ≡ facts → get_or (handed_on feeders n ts facts lists) s [] ≡ facts
  handed_keeps feeders n [] s facts lists below is = is
  handed_keeps feeders n (t ∷ ts) s facts lists below is =
      handed_keeps feeders n ts s facts (handed_to feeders n t facts lists) (omega (arith, to_count feeders n t facts lists, below)) (to_keeps feeders n t s facts lists below is)

  pub handed_here : (feeders : List (Option ℕ)) (n : ℕ) (ts : List ℕ) (s : ℕ) (facts : List A) (lists : List (List A)) → s < length lists → feeds_by (slice_get feeders s) n ≡ true → Contains ts s → get_or (handed_on feeders n ts facts lists) s [] ≡ facts
  handed_here feeders n [] s facts lists below fed among = absurd (omega (arith, among.1))
  handed_here feeders n (t ∷ ts) s facts lists below fed among = at among.0 among.1 among.2 (handed_here feeders n ts s facts (handed_to feeders n t facts lists) (omega (arith, to_count feeders n t facts lists, below)) fed)
    where
      got : t ≡ s → get_or (handed_to feeders n t facts lists) s [] ≡ facts
      got same = subst (λ k. get_or (cond (feeds_by (slice_get feeders k) n) (slice_set lists k facts) lists) s [] ≡ facts) (sym same) (subst (λ b. get_or (cond b (slice_set lists s facts) lists) s [] ≡ facts) (sym fed) (get_or-set_same lists s facts [] below))

      at : (k : ℕ) → k < length (t ∷ ts) → get_or (t ∷ ts) k s ≡ s → (Contains ts s → get_or (handed_on feeders n ts facts (handed_to feeders n t facts lists)) s [] ≡ facts) → get_or (handed_on feeders n ts facts (handed_to feeders n t facts lists)) s [] ≡ facts
      at zero within is later = handed_keeps feeders n ts s facts (handed_to feeders n t facts lists) (omega (arith, to_count feeders n t facts lists, below)) (got is)
      at (suc k) within is later = later (k, omega (arith, within), is)
