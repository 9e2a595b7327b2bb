-- Where a fact goes among those in order.
use Rattle.std.proofs.Common.{◌≡◌, ℕ, zero, suc, ◌+◌, ◌<◌, ◌≤◌, List, [], ◌∷◌, length, get_or, Bool, true, false, cond, ltb, refl, sym, ap, ◌∙◌, subst, arith, inl, inr}
use Rattle.std.specs.Prelude.{slice_set}
use Rattle.std.specs.List.{insert, remove, filter}
use Rattle.std.specs.List.Sorted.{IsNonDecreasingBy, IsPartitionedBy, IsPartitionPoint}
use Rattle.std.proofs.lemmas.Bool.{cases_lt, ltb-true, lt-ltb}
use Rattle.std.proofs.lemmas.List.Sorted.{IsPartitionedBy-ltb}
use Rattle.rtl_passes_marks.specs.Ranked.{RiseFrom}
use Rattle.rtl_passes_filled.specs.Filled.{put_in}
use Rattle.rtl_passes_filled.specs.Places.{IsFirstFrom}

not_below : (m n : ℕ) → ltb n m ≡ false → m ≤ n
not_below m n e =
    elim (cases_lt n m) [
      | inl less ↦ absurd (let yes : ltb n m ≡ true = lt-ltb n m less in cc)
      | inr le ↦ le
    ]

module _ {A : Type 0} (rank : A → ℕ) where
  above : (xs : List A) (lower k : ℕ) (d : A) → RiseFrom rank lower xs → k < length xs → lower ≤ rank (get_or xs k d)
  above [] lower k d rise below = absurd (omega (arith, below))
  above (x ∷ xs) lower zero d rise below = rise.0
  above (x ∷ xs) lower (suc k) d rise below = omega (arith, above xs (suc (rank x)) k d rise.1 (omega (arith, below)), rise.0)

  never_falls : (xs : List A) (lower : ℕ) → RiseFrom rank lower xs → IsNonDecreasingBy rank xs
  never_falls [] lower rise i j d le below = absurd (omega (arith, below))
  never_falls (x ∷ xs) lower rise zero zero d le below = omega arith
  never_falls (x ∷ xs) lower rise zero (suc j) d le below = omega (arith, above xs (suc (rank x)) j d rise.1 (omega (arith, below)))
  never_falls (x ∷ xs) lower rise (suc i) zero d le below = absurd (omega (arith, le))
  never_falls (x ∷ xs) lower rise (suc i) (suc j) d le below = never_falls xs (suc (rank x)) rise.1 i j d (omega (arith, le)) (omega (arith, below))

  -- those of lower places stand first
  pub lower_first : (xs : List A) (least : ℕ) → RiseFrom rank 0 xs → IsPartitionedBy (λ y. ltb (rank y) least) xs
  lower_first xs least rise = IsPartitionedBy-ltb rank xs least (never_falls xs 0 rise)

  pub first_at : (xs : List A) (least at : ℕ) → at ≤ length xs → IsPartitionPoint (λ y. ltb (rank y) least ≡ true) (λ y. ltb (rank y) least ≡ false) xs at → IsFirstFrom rank least xs at
  first_at xs least at within point = record {
    within = within;
    lower = λ k d less. ltb-true (rank (get_or xs k d)) least (point.0 k d (omega arith) less);
    here = λ d inside. not_below least (rank (get_or xs at d)) (point.1 at d (omega arith) inside);
  }

  -- what is kept where it is all but what has this place
  module _ (least : ℕ) (keep : A → Bool) (kept : (y : A) → ¬ (rank y ≡ least) → keep y ≡ true) (gone : (y : A) → rank y ≡ least → keep y ≡ false) where
    all_stay : (xs : List A) → ((k : ℕ) (d : A) → k < length xs → ¬ (rank (get_or xs k d) ≡ least)) → filter keep xs ≡ xs
    all_stay [] none = refl
    all_stay (x ∷ xs) none = at (keep x) (kept x (none 0 x (omega arith))) (all_stay xs (λ k d below. none (suc k) d (omega (arith, below))))
      where
        at : (b : Bool) → b ≡ true → filter keep xs ≡ xs → cond b (x ∷ filter keep xs) (filter keep xs) ≡ x ∷ xs
        at true e later = ap (λ ys. x ∷ ys) later
        at false e later = cc (e)

    one_goes : (xs : List A) (at lower : ℕ) → RiseFrom rank lower xs → at < length xs → ((d : A) → rank (get_or xs at d) ≡ least) → filter keep xs ≡ remove xs at
    one_goes [] at lower rise below there = absurd (omega (arith, below))
    one_goes (x ∷ xs) zero lower rise below there =
        by (keep x) (gone x (there x)) (all_stay xs (λ k d within is. absurd (omega (arith, above xs (suc (rank x)) k d rise.1 within, there x, is))))
      where
        by : (b : Bool) → b ≡ false → filter keep xs ≡ xs → cond b (x ∷ filter keep xs) (filter keep xs) ≡ xs
        by true e later = cc (e)
        by false e later = later
    one_goes (x ∷ xs) (suc at) lower rise below there =
        by (keep x) (kept x (λ is. absurd (omega (arith, above xs (suc (rank x)) at x rise.1 (omega (arith, below)), there x, is)))) (one_goes xs at (suc (rank x)) rise.1 (omega (arith, below)) there)
      where
        by : (b : Bool) → b ≡ true → filter keep xs ≡ remove xs at → cond b (x ∷ filter keep xs) (filter keep xs) ≡ x ∷ remove xs at
        by true e later = ap (λ ys. x ∷ ys) later
        by false e later = cc (e)

    -- the one that stands there goes
    pub one_is_removed : (xs : List A) (at : ℕ) → RiseFrom rank 0 xs → at < length xs → ((d : A) → rank (get_or xs at d) ≡ least) → filter keep xs ≡ remove xs at
    one_is_removed xs at rise below there = one_goes xs at 0 rise below there

    -- where none stands there all stay
    pub none_is_removed : (xs : List A) (at : ℕ) → RiseFrom rank 0 xs → IsFirstFrom rank least xs at → ((d : A) → at < length xs → ¬ (rank (get_or xs at d) ≡ least)) → filter keep xs ≡ xs
    none_is_removed xs at rise first other =
        all_stay xs (λ k d below is.
        elim (cases_lt k at) [
          | inl less ↦ absurd (omega (arith, first.lower k d less, is))
          | inr past ↦
              let inside : at < length xs = omega (arith, past, below) in
              let falls : rank (get_or xs at d) ≤ rank (get_or xs k d) = never_falls xs 0 rise at k d past below in
              absurd (other d inside (omega (arith, falls, first.here d inside, is)))
        ])

ltb_false : (m n : ℕ) → n ≤ m → ltb m n ≡ false
ltb_false m n le = at (ltb m n) refl
  where
    at : (b : Bool) → ltb m n ≡ b → b ≡ false
    at true e = absurd (omega (arith, ltb-true m n e, le))
    at false e = refl

module _ {A : Type 0} (rank : A → ℕ) (x : A) where
  abbrev both_tests : A → List A → Bool → Bool → List A
  both_tests y ys lower higher = cond lower (y ∷ put_in rank x ys) (cond higher (x ∷ (y ∷ ys)) (x ∷ ys))

  behind_lower : (y : A) (ys : List A) → rank y < rank x → put_in rank x (y ∷ ys) ≡ y ∷ put_in rank x ys
  behind_lower y ys less = ap (λ b. both_tests y ys b (ltb (rank x) (rank y))) (lt-ltb (rank y) (rank x) less)

  -- before a higher one, or behind all
  pub put_is_insert : (xs : List A) (at : ℕ) → at ≤ length xs → ((k : ℕ) (d : A) → k < at → rank (get_or xs k d) < rank x) → ((d : A) → at < length xs → rank x < rank (get_or xs at d)) → put_in rank x xs ≡ insert xs at x
  put_is_insert [] zero le lower higher = refl
  put_is_insert [] (suc at) le lower higher = absurd (omega (arith, le))
  put_is_insert (y ∷ ys) zero le lower higher =
      let above : rank x < rank y = higher y (omega arith) in
      ap (λ b. both_tests y ys b (ltb (rank x) (rank y))) (ltb_false (rank y) (rank x) (omega (arith, above))) ∙ ap (λ b. both_tests y ys false b) (lt-ltb (rank x) (rank y) above)
  put_is_insert (y ∷ ys) (suc at) le lower higher =
      behind_lower y ys (lower 0 y (omega arith))
      ∙ ap (λ zs. y ∷ zs) (put_is_insert ys at (omega (arith, le)) (λ k d less. lower (suc k) d (omega (arith, less))) (λ d within. higher d (omega (arith, within))))

  -- for the one at its place
  pub put_is_set : (xs : List A) (at : ℕ) → at < length xs → ((k : ℕ) (d : A) → k < at → rank (get_or xs k d) < rank x) → ((d : A) → rank (get_or xs at d) ≡ rank x) → put_in rank x xs ≡ slice_set xs at x
  put_is_set [] at below lower same = absurd (omega (arith, below))
  put_is_set (y ∷ ys) zero below lower same =
      ap (λ b. both_tests y ys b (ltb (rank x) (rank y))) (ltb_false (rank y) (rank x) (omega (arith, same y))) ∙ ap (λ b. both_tests y ys false b) (ltb_false (rank x) (rank y) (omega (arith, same y)))
  put_is_set (y ∷ ys) (suc at) below lower same =
      behind_lower y ys (lower 0 y (omega arith))
      ∙ ap (λ zs. y ∷ zs) (put_is_set ys at (omega (arith, below)) (λ k d less. lower (suc k) d (omega (arith, less))) (λ d. same d))
