-- Rows of live registers and their slots.
use Rattle.std.proofs.Common.{◌≡◌, ℕ, zero, suc, ◌+◌, ◌-◌, ◌<◌, ◌≤◌, ◌^◌, List, [], ◌∷◌, ◌++◌, length, get_or, drop, Option, Some, None, Bool, true, false, cond, eqb, refl, sym, ap, ◌∙◌, subst, arith, inl, inr}
use Rattle.std.specs.Prelude.{All, Contains, map, slice_get}
use Rattle.std.proofs.lemmas.Bool.{eq-eqb, ne_eqb}
use Rattle.std.proofs.lemmas.List.Elements.{All-nil, All-cons, All-append}
use Rattle.std.proofs.lemmas.List.{append_assoc, drop_more}
use Rattle.std.proofs.lemmas.Option.{same_Some}
use Rattle.rtl_language.specs.Function as rtl
use Rattle.rtl_passes_marks.specs.declared.row.NodeRow.{NodeRow}
use Rattle.rtl_passes_marks.specs.Marks.{feeder, AreFeeders}
use Rattle.rtl_passes_marks.specs.Ranked.{RiseFrom}
use Rattle.rtl_passes_marks.specs.Rows.{place_of, entries_at, IsRow, AreRows}
use Rattle.alloc_check_rules.specs.declared.equation.Equation.{Equation}
use Rattle.alloc_check_rules.specs.Rules.{IsInOrder}
use Rattle.alloc_check_verdict.specs.Allocated.{is_marked}
use Rattle.alloc_check_verdict.proofs.Known.{is_marked_from}
use Rattle.alloc_check_live.specs.Lists.{registers_at}
use Rattle.alloc_check.specs.Slots.{own}
use Rattle.alloc_check.specs.Rows.{row_at, rows_from}

module _ (feeders : List (Option ℕ)) where
  -- a row of another node says nothing here
  row_else : (f : Option (Option ℕ)) (first n : ℕ) (rs : List ℕ) (rows : List (NodeRow Equation)) → ¬ (first ≡ n) → entries_at (row_at f first rs ++ rows) n ≡ entries_at rows n
  row_else None first n rs rows other = refl
  row_else (Some (Some m)) first n rs rows other = refl
  row_else (Some None) first n [] rows other = refl
  row_else (Some None) first n (r ∷ rs) rows other = ap (λ b. cond b (map own (r ∷ rs)) (entries_at rows n)) (ne_eqb first n other)

  -- no row is for a lower node
  none_below : (first n : ℕ) (lists : List (List ℕ)) → n < first → entries_at (rows_from feeders first lists) n ≡ []
  none_below first n [] less = refl
  none_below first n (rs ∷ lists) less =
      row_else (slice_get feeders first) first n rs (rows_from feeders (suc first) lists) (λ same. omega (arith, less, same))
      ∙ none_below (suc first) n lists (omega (arith, less))

  -- a marked node has its own list
  pub own_row : (first n k : ℕ) (lists : List (List ℕ)) → first + k ≡ n → slice_get feeders n ≡ Some None → entries_at (rows_from feeders first lists) n ≡ map own (registers_at lists k)
  own_row first n k [] at marked = refl
  own_row first n zero (rs ∷ lists) at marked =
      let here : first ≡ n = omega (arith, at) in
      subst (λ f. entries_at (row_at f first rs ++ rows_from feeders (suc first) lists) n ≡ map own rs) (sym (ap (slice_get feeders) here ∙ marked)) (mine rs here (none_below (suc first) n lists (omega (arith, here))))
    where
      mine : (rs : List ℕ) → first ≡ n → entries_at (rows_from feeders (suc first) lists) n ≡ [] → entries_at (row_at (Some None) first rs ++ rows_from feeders (suc first) lists) n ≡ map own rs
      mine [] here none = none
      mine (r ∷ rs) here none = ap (λ b. cond b (map own (r ∷ rs)) (entries_at (rows_from feeders (suc first) lists) n)) (eq-eqb first n here)
  own_row first n (suc k) (rs ∷ lists) at marked =
      row_else (slice_get feeders first) first n rs (rows_from feeders (suc first) lists) (λ same. omega (arith, at, same))
      ∙ own_row (suc first) n k lists (omega (arith, at)) marked

  -- rows rise
  rows_rise : (lower first : ℕ) (lists : List (List ℕ)) → lower ≤ first → RiseFrom place_of lower (rows_from feeders first lists)
  rows_rise lower first [] le = tt
  rows_rise lower first (rs ∷ lists) le = at (slice_get feeders first) rs (rows_rise (suc first) (suc first) lists (omega arith)) (rows_rise lower (suc first) lists (omega (arith, le)))
    where
      at : (f : Option (Option ℕ)) (rs : List ℕ) → RiseFrom place_of (suc first) (rows_from feeders (suc first) lists) → RiseFrom place_of lower (rows_from feeders (suc first) lists) → RiseFrom place_of lower (row_at f first rs ++ rows_from feeders (suc first) lists)
      at None rs next later = later
      at (Some (Some m)) rs next later = later
      at (Some None) [] next later = later
      at (Some None) (r ∷ rs) next later = (le, next)

module _ (input : rtl.FunctionData) (feeders : List (Option ℕ)) (are : AreFeeders input.entry input.nodes feeders) where
  abbrev InOrder : List Equation → Type 0
  InOrder = IsInOrder input.registers input.registers

  -- each row is for a marked node
  rows_each : (first : ℕ) (lists : List (List ℕ)) → first + length lists ≡ length input.nodes → ((k : ℕ) → InOrder (map own (registers_at lists k))) → All (IsRow InOrder input.entry input.nodes) (rows_from feeders first lists)
  rows_each first [] count in_order = All-nil (IsRow InOrder input.entry input.nodes)
  rows_each first (rs ∷ lists) count in_order =
      All-append (IsRow InOrder input.entry input.nodes) (row_at (slice_get feeders first) first rs) (rows_from feeders (suc first) lists)
      (at (slice_get feeders first) refl rs (in_order 0))
      (rows_each (suc first) lists (omega (arith, count)) (λ k. in_order (suc k)))
    where
      at : (f : Option (Option ℕ)) → slice_get feeders first ≡ f → (xs : List ℕ) → InOrder (map own xs) → All (IsRow InOrder input.entry input.nodes) (row_at f first xs)
      at None is xs ordered = All-nil (IsRow InOrder input.entry input.nodes)
      at (Some (Some m)) is xs ordered = All-nil (IsRow InOrder input.entry input.nodes)
      at (Some None) is [] ordered = All-nil (IsRow InOrder input.entry input.nodes)
      at (Some None) is (x ∷ xs) ordered =
          let below : first < length input.nodes = omega (arith, count) in
          let marked : feeder input.entry input.nodes first ≡ None = same_Some (feeder input.entry input.nodes first) None (sym (are.each first below) ∙ is) in
          All-cons (IsRow InOrder input.entry input.nodes) (record { node = first; entries = map own (x ∷ xs) }) []
          (record { within = below; marked = marked; some = λ e. cc (e); in_order = ordered })
          (All-nil (IsRow InOrder input.entry input.nodes))

  pub own_rows_are : (lists : List (List ℕ)) → length lists ≡ length input.nodes → ((k : ℕ) → InOrder (map own (registers_at lists k))) → AreRows InOrder input.entry input.nodes (rows_from feeders 0 lists)
  own_rows_are lists count in_order = record { each = rows_each 0 lists (omega (arith, count)) in_order; rising = rows_rise feeders 0 0 lists (omega arith) }

  pub marked_row : (lists : List (List ℕ)) (n : ℕ) → n < length input.nodes → is_marked input n ≡ true → entries_at (rows_from feeders 0 lists) n ≡ map own (registers_at lists n)
  marked_row lists n below marked = own_row feeders 0 n n lists (omega arith) (are.each n below ∙ ap (λ f. Some f) (is_marked_from input n marked))

-- ---- one node after the other

pub row_next : (feeders : List (Option ℕ)) (lists : List (List ℕ)) (n : ℕ) (d rs : List ℕ) → rs ≡ get_or lists n d → n < length lists → (rows next all : List (NodeRow Equation)) → next ≡ rows ++ row_at (slice_get feeders n) n rs → rows ++ rows_from feeders n (drop n lists) ≡ all → next ++ rows_from feeders (n + 1) (drop (n + 1) lists) ≡ all
row_next feeders lists n d rs got below rows next all added so_far =
    ap (λ xs. xs ++ rows_from feeders (n + 1) (drop (n + 1) lists)) (added ∙ ap (λ (xs : List ℕ). rows ++ row_at (slice_get feeders n) n xs) got)
    ∙ append_assoc rows (row_at (slice_get feeders n) n (get_or lists n d)) (rows_from feeders (n + 1) (drop (n + 1) lists))
    ∙ ap (λ k. rows ++ (row_at (slice_get feeders n) n (get_or lists n d) ++ rows_from feeders k (drop (n + 1) lists))) (let step : n + 1 ≡ suc n = omega arith in step)
    ∙ ap (λ ls. rows ++ rows_from feeders n ls) (sym (drop_more lists n d below))
    ∙ so_far

-- a row for a marked node where something is live
pub row_some : (f : Option (Option ℕ)) (n : ℕ) (rs : List ℕ) → f ≡ Some None → ¬ (length rs ≡ 0) → row_at f n rs ≡ record { node = n; entries = map own rs } ∷ []
row_some f n [] marked some = absurd (some refl)
row_some f n (r ∷ rs) marked some = ap (λ g. row_at g n (r ∷ rs)) marked

-- none where nothing is, or at a node that is not marked
pub row_none : (f : Option (Option ℕ)) (n : ℕ) (rs : List ℕ) → ¬ ((f ≡ Some None) × ¬ (length rs ≡ 0)) → row_at f n rs ≡ []
row_none None n rs none = refl
row_none (Some (Some m)) n rs none = refl
row_none (Some None) n [] none = refl
row_none (Some None) n (r ∷ rs) none = absurd (none (refl, λ is. omega (arith, is)))
