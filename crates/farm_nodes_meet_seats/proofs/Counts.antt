-- How many numbers are told.
use Rattle.std.proofs.Common.{◌≡◌, ◌≢◌, ℕ, zero, suc, ◌+◌, ◌<◌, ◌≤◌, ◌↔◌, Bool, true, false, cond, refl, sym, ap, subst, ◌∙◌, arith, inl, inr}
use Rattle.std.proofs.lemmas.Bool.{cases_eq}
use Rattle.farm_nodes_meet_seats.specs.Counts.{IsCount, count_told}

-- one number more is told: this one
with_next : (ℕ → Bool) → ℕ → Bool → ℕ → Bool
with_next told zero b zero = b
with_next told zero b (suc k) = told (suc k)
with_next told (suc n) b zero = told zero
with_next told (suc n) b (suc k) = with_next (λ j. told (suc j)) n b k

next_here : (told : ℕ → Bool) (n : ℕ) (b : Bool) → with_next told n b n ≡ b
unfolding with_next
next_here told zero b = refl
next_here told (suc n) b = next_here (λ j. told (suc j)) n b

next_other : (told : ℕ → Bool) (n : ℕ) (b : Bool) (k : ℕ) → k ≢ n → with_next told n b k ≡ told k
unfolding with_next
next_other told zero b zero other = absurd (other refl)
next_other told zero b (suc k) other = refl
next_other told (suc n) b zero other = refl
next_other told (suc n) b (suc k) other = next_other (λ j. told (suc j)) n b k (λ e. other (ap suc e))

same_count : (n : ℕ) (p q : ℕ → Bool) → ((k : ℕ) → k < n → p k ≡ q k) → count_told n p ≡ count_told n q
same_count zero p q same = refl
same_count (suc n) p q same =
    let first : count_told n p ≡ count_told n q = same_count n p q (λ k below. same k (omega (arith, below))) in
    let last : p n ≡ q n = same n (omega arith) in
    ap (λ c. c + cond (p n) 1 0) first ∙ ap (λ b. count_told n q + cond b 1 0) last

-- the count goes on by one place
pub count_next : (Is Is' : ℕ → Type 0) (n count : ℕ) (b : Bool) → IsCount Is n count → ((k : ℕ) → k < n → Is k ↔ Is' k)
    → ((b ≡ true) ↔ Is' n) → IsCount Is' (suc n) (count + cond b 1 0)
count_next Is Is' n count b before same last =
    let told : ℕ → Bool = with_next before.told n b in
    let kept : (k : ℕ) → k < n → told k ≡ before.told k = λ k below. next_other before.told n b k (λ e. absurd (omega (arith, e, below))) in
    let newest : told n ≡ b = next_here before.told n b in
    record {
      told = told;
      number = ap (λ c. c + cond b 1 0) (before.number ∙ sym (same_count n told before.told kept)) ∙ ap (λ t. count_told n told + cond t 1 0) (sym newest);
      which = λ k below. elim (cases_eq k n) [
        | inl here ↦ subst (λ j. (told j ≡ true) ↔ Is' j) (sym here) (subst (λ t. (t ≡ true) ↔ Is' n) (sym newest) last)
        | inr other ↦
            let lower : k < n = omega (arith, below, other) in
            let told_before = before.which k lower in
            (λ e. (same k lower).0 (told_before.0 (sym (kept k lower) ∙ e)), λ is. kept k lower ∙ told_before.1 ((same k lower).1 is))
      ];
    }

pub most_next : (n count : ℕ) (b : Bool) → count ≤ n → count + cond b 1 0 ≤ suc n
most_next n count true most = omega arith
most_next n count false most = omega arith

-- there are no more than all
at_most : (n : ℕ) (told : ℕ → Bool) → count_told n told ≤ n
at_most zero told = omega arith
at_most (suc n) told = most_next n (count_told n told) (told n) (at_most n told)

-- where all are counted, each is told
last_told : (n : ℕ) (before : ℕ) (b : Bool) → before ≤ n → before + cond b 1 0 ≡ suc n → (b ≡ true) × (before ≡ n)
last_told n before true most e = (refl, omega arith)
last_told n before false most e = absurd (omega arith)

all_told : (n : ℕ) (told : ℕ → Bool) → count_told n told ≡ n → (k : ℕ) → k < n → told k ≡ true
all_told zero told e k below = absurd (omega (arith, below))
all_told (suc n) told e k below =
    let last = last_told n (count_told n told) (told n) (at_most n told) e in
    elim (cases_eq k n) [
      | inl here ↦ ap told here ∙ last.0
      | inr other ↦ all_told n told last.1 k (omega (arith, below, other))
    ]

pub each_counted : (Is : ℕ → Type 0) (n count : ℕ) → IsCount Is n count → count ≡ n → (k : ℕ) → k < n → Is k
each_counted Is n count counted all k below = (counted.which k below).0 (all_told n counted.told (sym counted.number ∙ all) k below)

-- where none is so, none is counted
untold : (b : Bool) → (b ≡ true → ⊥) → b ≡ false
untold true never = absurd (never refl)
untold false never = refl

none_told : (n : ℕ) (told : ℕ → Bool) → ((k : ℕ) → k < n → told k ≡ true → ⊥) → count_told n told ≡ 0
none_told zero told never = refl
none_told (suc n) told never =
    let first : count_told n told ≡ 0 = none_told n told (λ k below. never k (omega (arith, below))) in
    let last : told n ≡ false = untold (told n) (never n (omega arith)) in
    ap (λ c. c + cond (told n) 1 0) first ∙ ap (λ (b : Bool). 0 + cond b 1 0) last

pub none_counted : (Is : ℕ → Type 0) (n count : ℕ) → IsCount Is n count → ((k : ℕ) → k < n → Is k → ⊥) → count ≡ 0
none_counted Is n count counted never = counted.number ∙ none_told n counted.told (λ k below e. never k below ((counted.which k below).0 e))
