-- What a write does to the bytes of a disk, and what a crash may make of a write that is not synced.
use Rattle.std.specs.Prelude.{◌≡◌, ◌<◌, ◌≤◌, ◌+◌, ◌-◌, ℕ, min, List, [], ◌∷◌, ◌++◌, length, take, drop, replicate}
use Rattle.std.proofs.Common.{refl, sym, ◌∙◌, ap, arith, append-nil, append_assoc, take-append-drop, add-zero, length-append, length-drop}
use Rattle.std.proofs.lemmas.List.{length-take, length-replicate, take_at, drop_at, take_min}
use Rattle.std.proofs.Math.Nat.{sub-eq-zero_of_le, min-eq_left, suc-ne-zero}

-- the first `at` bytes; where there are fewer, zeros fill them up
abbrev pub front : List ℕ → ℕ → List ℕ
front old at = take at old ++ replicate (at - length old) 0

-- old with these bytes from `at` on. No bytes change nothing
abbrev pub overwritten : List ℕ → ℕ → List ℕ → List ℕ
overwritten old at [] = old
overwritten old at (byte ∷ bytes) = front old at ++ (byte ∷ bytes) ++ drop (at + length (byte ∷ bytes)) old

-- a write of n bytes makes the disk longer
abbrev pub Lengthens : ℕ → ℕ → List ℕ → Type 0
Lengthens at n old = (0 < n) × (length old < at + n)

-- what a write of n bytes may leave: any bytes in its range and past the old end, the others as they were
pub record Torn (at n : ℕ) (old new : List ℕ) : Type 0 where
  pub nothing : n ≡ 0 → new ≡ old
  pub no_shorter : length old ≤ length new
  pub before : take (min at (length old)) new ≡ take at old
  pub after : 0 < n → drop (at + n) new ≡ drop (at + n) old

-- new is old with some bytes behind it, up to an end at most
pub record Grown (end : ℕ) (old new : List ℕ) : Type 0 where
  pub no_shorter : length old ≤ length new
  pub front : take (length old) new ≡ old
  pub rest : drop end new ≡ drop end old

-- within the disk nothing is filled up
pub overwritten_within : (old : List ℕ) (at : ℕ) (bytes : List ℕ) → at ≤ length old
    → overwritten old at bytes ≡ take at old ++ bytes ++ drop (at + length bytes) old
overwritten_within old at [] within =
    sym (ap (λ n. take at old ++ [] ++ drop n old) (add-zero at) ∙ ap (λ l. l ++ drop at old) (append-nil (take at old))
    ∙ take-append-drop at old)
overwritten_within old at (byte ∷ bytes) within =
    ap (λ n. (take at old ++ replicate n 0) ++ (byte ∷ bytes) ++ drop (at + length (byte ∷ bytes)) old) (sub-eq-zero_of_le within)
    ∙ ap (λ l. l ++ (byte ∷ bytes) ++ drop (at + length (byte ∷ bytes)) old) (append-nil (take at old))

-- within the disk the bytes before the range are as they were
pub torn_before : {at n : ℕ} {old new : List ℕ} → at ≤ length old → Torn at n old new → take at new ≡ take at old
torn_before {at} {n} {old} {new} within torn = ap (λ k. take k new) (sym (min-eq_left within)) ∙ torn.before

-- a write may leave all as it was
pub torn_nothing : (old : List ℕ) (at n : ℕ) → Torn at n old old
torn_nothing old at n =
    record { nothing = λ none. refl; no_shorter = omega arith; before = take_min at old; after = λ some. refl }

length-front : (old : List ℕ) (at : ℕ) → length (front old at) ≡ at
length-front old at = omega (arith, length-append (take at old) (replicate (at - length old) 0), length-take at old, length-replicate (at - length old) (let z : ℕ = 0 in z))

-- a write that was done is one of those that may be left
pub torn_overwritten : (old : List ℕ) (at : ℕ) (bytes : List ℕ) → Torn at (length bytes) old (overwritten old at bytes)
torn_overwritten old at [] = torn_nothing old at 0
torn_overwritten old at (byte ∷ bytes) =
    let rest = drop (at + length (byte ∷ bytes)) old in
    let gap = replicate (at - length old) (let z : ℕ = 0 in z) in
    let long : length (front old at ++ (byte ∷ bytes)) ≡ at + length (byte ∷ bytes) =
    omega (arith, length-append (front old at) (byte ∷ bytes), length-front old at) in
    record {
      nothing = λ none. absurd (suc-ne-zero (length bytes) none);
      no_shorter = omega (arith, long, length-append (front old at ++ (byte ∷ bytes)) rest, length-drop (at + length (byte ∷ bytes)) old);
      before =
          ap (take (min at (length old))) (append_assoc (front old at) (byte ∷ bytes) rest ∙ append_assoc (take at old) gap ((byte ∷ bytes) ++ rest))
          ∙ take_at (take at old) (gap ++ ((byte ∷ bytes) ++ rest)) (min at (length old)) (length-take at old);
      after = λ some. drop_at (front old at ++ (byte ∷ bytes)) rest (at + length (byte ∷ bytes)) long;
    }
