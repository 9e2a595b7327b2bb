-- What is known behind an instruction, as a list in order.
use Rattle.std.proofs.Common.{◌≡◌, ℕ, zero, suc, ◌<◌, ◌≤◌, List, [], ◌∷◌, length, get_or, Option, Some, None, Bool, true, false, cond, ltb, refl, sym, ap, subst, arith, inl, inr}
use Rattle.std.specs.Prelude.{◌↔◌, All, Contains}
use Rattle.std.specs.List.{filter}
use Rattle.std.proofs.lemmas.Bool.{cases_lt, ltb-true, lt-ltb}
use Rattle.std.proofs.lemmas.List.{get_or_default}
use Rattle.std.proofs.lemmas.List.Elements.{All-cons, All-tail, All-filter, filter_passes}
use Rattle.rtl_passes_marks.specs.Instruction.{Instruction}
use Rattle.rtl_passes_marks.specs.Ranked.{RiseFrom}
use Rattle.rtl_passes_filled.specs.Known.{IsMadeOrKept}
use Rattle.rtl_passes_filled.specs.Rules.{RulesOf}
use Rattle.rtl_passes_filled.specs.Filled.{put_in, with_made, behind}

not_below : (m n : ℕ) → ltb n m ≡ false → m ≤ n
not_below m n e =
    elim (cases_lt n m) [
      | inl less ↦ absurd (let yes : ltb n m ≡ true = lt-ltb n m less in cc)
      | inr le ↦ le
    ]

module _ {A : Type 0} (rank : A → ℕ) where
  lower : (xs : List A) (a b : ℕ) → b ≤ a → RiseFrom rank a xs → RiseFrom rank b xs
  lower [] a b le rise = tt
  lower (x ∷ xs) a b le rise = (omega (arith, le, rise.0), rise.1)

  -- some of those in order are in order
  pub rise_filter : (p : A → Bool) (xs : List A) (least : ℕ) → RiseFrom rank least xs → RiseFrom rank least (filter p xs)
  rise_filter p [] least rise = tt
  rise_filter p (x ∷ xs) least rise = at (p x) (rise_filter p xs (suc (rank x)) rise.1)
    where
      at : (b : Bool) → RiseFrom rank (suc (rank x)) (filter p xs) → RiseFrom rank least (cond b (x ∷ filter p xs) (filter p xs))
      at true later = (rise.0, later)
      at false later = lower (filter p xs) (suc (rank x)) least (omega (arith, rise.0)) later

  -- with one more at its place too
  pub rise_put : (x : A) (xs : List A) (least : ℕ) → least ≤ rank x → RiseFrom rank least xs → RiseFrom rank least (put_in rank x xs)
  rise_put x [] least le rise = (le, tt)
  rise_put x (y ∷ ys) least le rise = at (ltb (rank y) (rank x)) refl (λ less. rise_put x ys (suc (rank y)) (ltb-true (rank y) (rank x) less) rise.1)
    where
      last : (b : Bool) → ltb (rank x) (rank y) ≡ b → ltb (rank y) (rank x) ≡ false → RiseFrom rank least (cond b (x ∷ (y ∷ ys)) (x ∷ ys))
      last true less not_less = (le, (ltb-true (rank x) (rank y) less, rise.1))
      last false not_less also = (le, lower ys (suc (rank y)) (suc (rank x)) (omega (arith, not_below (rank x) (rank y) also)) rise.1)

      at : (b : Bool) → ltb (rank y) (rank x) ≡ b → (ltb (rank y) (rank x) ≡ true → RiseFrom rank (suc (rank y)) (put_in rank x ys)) → RiseFrom rank least (cond b (y ∷ put_in rank x ys) (cond (ltb (rank x) (rank y)) (x ∷ (y ∷ ys)) (x ∷ ys)))
      at true less later = (rise.0, later less)
      at false not_less later = last (ltb (rank x) (rank y)) refl not_less

  -- whatever holds of one and of the others
  pub all_put : (P : A → Type 0) (x : A) (xs : List A) → P x → All P xs → All P (put_in rank x xs)
  all_put P x [] one all = All-cons P x [] one all
  all_put P x (y ∷ ys) one all = at (ltb (rank y) (rank x)) (all_put P x ys one (All-tail P y ys all))
    where
      tail : All P ys
      tail = All-tail P y ys all

      last : (b : Bool) → All P (cond b (x ∷ (y ∷ ys)) (x ∷ ys))
      last true = All-cons P x (y ∷ ys) one all
      last false = All-cons P x ys one tail

      at : (b : Bool) → All P (put_in rank x ys) → All P (cond b (y ∷ put_in rank x ys) (cond (ltb (rank x) (rank y)) (x ∷ (y ∷ ys)) (x ∷ ys)))
      at true later = All-cons P y (put_in rank x ys) (all 0 y (omega arith)) later
      at false later = last (ltb (rank x) (rank y))

-- it is in order
pub rise_behind : {A : Type 0} (rules : RulesOf A) (i : Instruction) (before : List A) → RiseFrom rules.rank 0 before → RiseFrom rules.rank 0 (behind rules i before)
rise_behind {A} rules i before rise = at (rules.made i before)
  where
    kept : List A
    kept = filter (rules.keeps i) before

    at : (o : Option A) → RiseFrom rules.rank 0 (with_made rules.rank o kept)
    at None = rise_filter rules.rank (rules.keeps i) before 0 rise
    at (Some fact) = rise_put rules.rank fact kept 0 (omega arith) (rise_filter rules.rank (rules.keeps i) before 0 rise)

-- what holds of what is made, and of what was known before and is kept
pub all_behind : {A : Type 0} (rules : RulesOf A) (P : A → Type 0) (i : Instruction) (before : List A) → ((fact : A) → IsMadeOrKept (rules.made i before) (rules.keeps i) before fact → P fact) → All P (behind rules i before)
all_behind {A} rules P i before each = at (rules.made i before) refl
  where
    kept : List A
    kept = filter (rules.keeps i) before

    among : All (Contains before) before
    among = λ k d below. (k, below, get_or_default before k (get_or before k d) d below)

    all_kept : All P kept
    all_kept = λ k d below. each (get_or kept k d) (inr (All-filter (rules.keeps i) (Contains before) before among k d below, filter_passes (rules.keeps i) before k d below))

    at : (o : Option A) → rules.made i before ≡ o → All P (with_made rules.rank o kept)
    at None e = all_kept
    at (Some fact) e = all_put rules.rank P fact kept (each fact (inl e)) all_kept
