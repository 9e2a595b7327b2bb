-- Tables to which numbers are added.
use Rattle.std.proofs.Common.{◌≡◌, ℕ, zero, suc, ◌+◌, ◌<◌, ◌≤◌, List, [], ◌∷◌, ◌++◌, length, replicate, Option, None, refl, sym, ap, ◌∙◌, subst, arith, ◌⊎◌, inl, inr}
use Rattle.std.specs.Prelude.{◌↔◌, slice_get, Contains}
use Rattle.std.proofs.lemmas.Bool.{cases_eq, cases_lt}
use Rattle.std.proofs.lemmas.List.{length-set, length-replicate, get_or-set_same, get_or-set_other, set_past}
use Rattle.std.proofs.lemmas.List.Elements.{Contains-append_left, Contains-push, Contains-push_cases}
use Rattle.std.proofs.lemmas.Option.{slice_get_past}
use Rattle.rtl_language.specs.declared.instruction.Instruction.{Instruction}
use Rattle.alloc_check_live.specs.Lists.{registers_at}
use Rattle.alloc_check_live.specs.Tables.{added, added_to_each, IsIndex, AreThose}

-- ---- one of a list

pub head_of : {A : Type 0} (x : A) (xs : List A) → Contains (x ∷ xs) x
head_of x xs = (0, omega arith, refl)

pub later_of : {A : Type 0} (y : A) (xs : List A) (x : A) → Contains xs x → Contains (y ∷ xs) x
later_of y xs x h = (suc h.0, omega (arith, h.1), h.2)

pub one_or_later : {A : Type 0} (y : A) (xs : List A) (x : A) → Contains (y ∷ xs) x → (y ≡ x) ⊎ Contains xs x
one_or_later y xs x (zero, below, e) = inl e
one_or_later y xs x (suc k, below, e) = inr (k, omega (arith, below), e)

pub none_of : {A B : Type 0} (x : A) → Contains [] x → B
none_of x h = absurd (omega (arith, h.1))

-- ---- one number more

pub length-added : (lists : List (List ℕ)) (place number : ℕ) → length (added lists place number) ≡ length lists
length-added lists place number = length-set lists place (registers_at lists place ++ number ∷ [])

pub at-added_same : (lists : List (List ℕ)) (place number : ℕ) → place < length lists → registers_at (added lists place number) place ≡ registers_at lists place ++ number ∷ []
at-added_same lists place number below = get_or-set_same lists place (registers_at lists place ++ number ∷ []) [] below

pub at-added_other : (lists : List (List ℕ)) (place number k : ℕ) → (k ≡ place → ⊥) → registers_at (added lists place number) k ≡ registers_at lists k
at-added_other lists place number k other = get_or-set_other lists place k (registers_at lists place ++ number ∷ []) [] other

-- what holds at the place with one number more, and elsewhere of the list as it was, holds at each place
pub each_added : (Q : ℕ → List ℕ → Type 0) (lists : List (List ℕ)) (place number : ℕ) → place < length lists → Q place (registers_at lists place ++ number ∷ []) → (k : ℕ) → Q k (registers_at lists k) → Q k (registers_at (added lists place number) k)
each_added Q lists place number below here k there =
    elim (cases_eq k place) as (λ _. Q k (registers_at (added lists place number) k)) [
      | inl e ↦ subst (λ j. Q j (registers_at (added lists place number) j)) (sym e) (subst (Q place) (sym (at-added_same lists place number below)) here)
      | inr other ↦ subst (Q k) (sym (at-added_other lists place number k other)) there
    ]

-- the new number is at its place
abbrev IsNew : List (List ℕ) → ℕ → ℕ → ℕ → ℕ → Type 0
IsNew lists place number k n = (place < length lists) × (place ≡ k) × (number ≡ n)

has_added : (lists : List (List ℕ)) (place number k n : ℕ) → Contains (registers_at (added lists place number) k) n → Contains (registers_at lists k) n ⊎ IsNew lists place number k n
has_added lists place number k n h =
    elim (cases_lt place (length lists)) as (λ _. Contains (registers_at lists k) n ⊎ IsNew lists place number k n) [
      | inl below ↦ each_added (λ j xs. Contains xs n → Contains (registers_at lists j) n ⊎ IsNew lists place number j n) lists place number below
          (λ c. elim (Contains-push_cases (registers_at lists place) number n c) as (λ _. Contains (registers_at lists place) n ⊎ IsNew lists place number place n) [
            | inl old ↦ inl old
            | inr new ↦ inr (below, refl, new)
          ])
          k (λ c. inl c) h
      | inr past ↦ inl (subst (λ ls. Contains (registers_at ls k) n) (set_past lists place (registers_at lists place ++ number ∷ []) past) h)
    ]

still_has : (lists : List (List ℕ)) (place number k n : ℕ) → Contains (registers_at lists k) n → Contains (registers_at (added lists place number) k) n
still_has lists place number k n h =
    elim (cases_lt place (length lists)) as (λ _. Contains (registers_at (added lists place number) k) n) [
      | inl below ↦ each_added (λ j xs. Contains (registers_at lists j) n → Contains xs n) lists place number below
          (λ c. Contains-append_left (registers_at lists place) (number ∷ []) n c)
          k (λ c. c) h
      | inr past ↦ subst (λ ls. Contains (registers_at ls k) n) (sym (set_past lists place (registers_at lists place ++ number ∷ []) past)) h
    ]

has_new : (lists : List (List ℕ)) (place number : ℕ) → place < length lists → Contains (registers_at (added lists place number) place) number
has_new lists place number below = subst (λ xs. Contains xs number) (sym (at-added_same lists place number below)) (Contains-push (registers_at lists place) number)

-- ---- at several places

pub length-added_to_each : (number : ℕ) (places : List ℕ) (lists : List (List ℕ)) → length (added_to_each number places lists) ≡ length lists
length-added_to_each number [] lists = refl
length-added_to_each number (place ∷ places) lists = length-added_to_each number places (added lists place number) ∙ length-added lists place number

-- the new number is at one of the places
abbrev IsOfEach : List (List ℕ) → ℕ → List ℕ → ℕ → ℕ → Type 0
IsOfEach lists number places k n = (k < length lists) × (number ≡ n) × Contains places k

has_each : (number : ℕ) (places : List ℕ) (lists : List (List ℕ)) (k n : ℕ) → Contains (registers_at (added_to_each number places lists) k) n → Contains (registers_at lists k) n ⊎ IsOfEach lists number places k n
has_each number [] lists k n h = inl h
has_each number (place ∷ places) lists k n h =
    elim (has_each number places (added lists place number) k n h) as (λ _. Contains (registers_at lists k) n ⊎ IsOfEach lists number (place ∷ places) k n) [
      | inl c ↦ elim (has_added lists place number k n c) as (λ _. Contains (registers_at lists k) n ⊎ IsOfEach lists number (place ∷ places) k n) [
        | inl old ↦ inl old
        | inr new ↦ inr (subst (λ j. j < length lists) new.1 new.0, new.2, subst (Contains (place ∷ places)) new.1 (head_of place places))
      ]
      | inr new ↦ inr (subst (λ m. k < m) (length-added lists place number) new.0, new.1, later_of place places k new.2)
    ]

each_still : (number : ℕ) (places : List ℕ) (lists : List (List ℕ)) (k n : ℕ) → Contains (registers_at lists k) n → Contains (registers_at (added_to_each number places lists) k) n
each_still number [] lists k n h = h
each_still number (place ∷ places) lists k n h = each_still number places (added lists place number) k n (still_has lists place number k n h)

each_new : (number : ℕ) (places : List ℕ) (lists : List (List ℕ)) (k : ℕ) → k < length lists → Contains places k → Contains (registers_at (added_to_each number places lists) k) number
each_new number [] lists k below h = none_of k h
each_new number (place ∷ places) lists k below h =
    elim (one_or_later place places k h) as (λ _. Contains (registers_at (added_to_each number (place ∷ places) lists) k) number) [
      | inl e ↦ each_still number places (added lists place number) k number
          (subst (λ j. Contains (registers_at (added lists place number) j) number) e (has_new lists place number (subst (λ j. j < length lists) (sym e) below)))
      | inr later ↦ each_new number places (added lists place number) k (subst (λ m. k < m) (sym (length-added lists place number)) below) later
    ]

-- ---- the nodes that name a number, as far as a node

abbrev pub IsNamed : (Option Instruction → List ℕ) → List Instruction → ℕ → ℕ → ℕ → ℕ → Type 0
IsNamed of nodes count bound number n = (n < bound) × (number < count) × Contains (of (slice_get nodes n)) number

pub record IsIndexBelow (of : Option Instruction → List ℕ) (nodes : List Instruction) (count bound : ℕ) (lists : List (List ℕ)) : Type 0 where
  pub counted : length lists ≡ count
  pub exactly : (number n : ℕ) → Contains (registers_at lists number) n ↔ IsNamed of nodes count bound number n

nothing_at : (count k : ℕ) → registers_at (replicate count []) k ≡ []
nothing_at zero k = refl
nothing_at (suc count) zero = refl
nothing_at (suc count) (suc k) = nothing_at count k

pub nothing_in : {B : Type 0} (count k n : ℕ) → Contains (registers_at (replicate count []) k) n → B
nothing_in count k n h = none_of n (subst (λ xs. Contains xs n) (nothing_at count k) h)

pub index_none : (of : Option Instruction → List ℕ) (nodes : List Instruction) (count : ℕ) → IsIndexBelow of nodes count 0 (replicate count [])
index_none of nodes count = record {
  counted = length-replicate count [];
  exactly = λ number n. (λ h. nothing_in count number n h, λ h. absurd (omega (arith, h.0)));
}

pub index_more : (of : Option Instruction → List ℕ) (nodes : List Instruction) (count bound : ℕ) (lists : List (List ℕ)) → IsIndexBelow of nodes count bound lists → IsIndexBelow of nodes count (bound + 1) (added_to_each bound (of (slice_get nodes bound)) lists)
index_more of nodes count bound lists below = record {
  counted = length-added_to_each bound (of (slice_get nodes bound)) lists ∙ below.counted;
  exactly = λ number n. (forward number n, backward number n);
}
  where
    forward : (number n : ℕ) → Contains (registers_at (added_to_each bound (of (slice_get nodes bound)) lists) number) n → IsNamed of nodes count (bound + 1) number n
    forward number n h =
        elim (has_each bound (of (slice_get nodes bound)) lists number n h) as (λ _. IsNamed of nodes count (bound + 1) number n) [
          | inl old ↦ (let o = (below.exactly number n).0 old in (omega (arith, o.0), o.1, o.2))
          | inr new ↦ (omega (arith, new.1), omega (arith, new.0, below.counted), subst (λ j. Contains (of (slice_get nodes j)) number) new.1 new.2)
        ]

    backward : (number n : ℕ) → IsNamed of nodes count (bound + 1) number n → Contains (registers_at (added_to_each bound (of (slice_get nodes bound)) lists) number) n
    backward number n h =
        elim (cases_eq bound n) as (λ _. Contains (registers_at (added_to_each bound (of (slice_get nodes bound)) lists) number) n) [
          | inl e ↦ subst (Contains (registers_at (added_to_each bound (of (slice_get nodes bound)) lists) number)) e
              (each_new bound (of (slice_get nodes bound)) lists number (omega (arith, h.1, below.counted)) (subst (λ j. Contains (of (slice_get nodes j)) number) (sym e) h.2))
          | inr other ↦ each_still bound (of (slice_get nodes bound)) lists number n ((below.exactly number n).1 (omega (arith, h.0, other), h.1, h.2))
        ]

pub index_all : (of : Option Instruction → List ℕ) (nodes : List Instruction) (count bound : ℕ) (lists : List (List ℕ)) → of None ≡ [] → length nodes ≤ bound → IsIndexBelow of nodes count bound lists → IsIndex of nodes count lists
index_all of nodes count bound lists none all below = record {
  counted = below.counted;
  exactly = λ number n. (
    λ h. let o = (below.exactly number n).0 h in (o.1, o.2),
    λ h. (below.exactly number n).1 (omega (arith, within number n h.1, all), h.0, h.1),
  );
}
  where
    within : (number n : ℕ) → Contains (of (slice_get nodes n)) number → n < length nodes
    within number n h =
        elim (cases_lt n (length nodes)) as (λ _. n < length nodes) [
          | inl less ↦ less
          | inr past ↦ none_of number (subst (λ xs. Contains xs number) (ap of (slice_get_past nodes n past) ∙ none) h)
        ]

pub those_of : (of : Option Instruction → List ℕ) (nodes : List Instruction) (count : ℕ) (lists : List (List ℕ)) → IsIndex of nodes count lists → (number : ℕ) → number < count → AreThose of nodes number (registers_at lists number)
those_of of nodes count lists index number below n = (λ h. ((index.exactly number n).0 h).1, λ h. (index.exactly number n).1 (below, h))
