-- A crash at any moment of a run of calls, and how such runs are put together.
use Rattle.std.specs.Prelude.{◌⊎◌, ◌≤◌, ℕ}
use Rattle.std.proofs.Common.{inl, inr, ⊎_elim, arith}
use Rattle.durable_model.specs.Honest.{Elapses}

-- A crash at some moment from old to new leaves an image that has P: the bytes of one disk, or of more at one moment.
pub record LeavesOnly {D I : Type 0} (moment : D → ℕ) (left_since : D → ℕ → I → Type 0)
    (old new : D) (P : I → Type 0) : Type 0 where
  pub later : moment old ≤ moment new
  pub each : (c : I) → left_since new (moment old) c → P c
  -- for a run that began earlier
  pub before : (t : ℕ) (c : I) → t ≤ moment old → left_since new t c → left_since old t c ⊎ P c

module _ {D I : Type 0} (moment : D → ℕ) (left_since : D → ℕ → I → Type 0) where
  -- before the first call
  pub started : (old : D) (P : I → Type 0) → ((c : I) → left_since old (moment old) c → P c)
      → LeavesOnly moment left_since old old P
  started old P here = record { later = omega arith; each = here; before = λ t c le left. inl left }

  -- one call more, after which a crash leaves bytes that have P
  pub goes_on : (old mid new : D) (P : I → Type 0) (may_leave : D → I → Type 0)
      → LeavesOnly moment left_since old mid P → Elapses moment left_since may_leave mid new
      → ((c : I) → may_leave new c → P c) → LeavesOnly moment left_since old new P
  goes_on old mid new P may_leave so_far time here = record {
    later = omega (arith, so_far.later, time.later);
    each = λ c left. ⊎_elim (so_far.each c) (here c) (time.nothing_else (moment old) c so_far.later left);
    before = λ t c le left.
        ⊎_elim (so_far.before t c le) (λ now. inr (here c now)) (time.nothing_else t c (omega (arith, le, so_far.later)) left);
  }

  -- one run after another
  pub composed : (old mid new : D) (P Q R : I → Type 0)
      → LeavesOnly moment left_since old mid P → LeavesOnly moment left_since mid new Q
      → ((c : I) → P c → R c) → ((c : I) → Q c → R c) → LeavesOnly moment left_since old new R
  composed old mid new P Q R first second p q = record {
    later = omega (arith, first.later, second.later);
    each = λ c left.
        ⊎_elim (λ earlier. p c (first.each c earlier)) (q c) (second.before (moment old) c first.later left);
    before = λ t c le left.
        ⊎_elim (λ earlier. ⊎_elim (λ past. inl past) (λ has. inr (p c has)) (first.before t c le earlier)) (λ has. inr (q c has))
        (second.before t c (omega (arith, le, first.later)) left);
  }
