-- Tables of marks: what the marked nodes say of the listed ones.
use Rattle.std.proofs.Common.{◌≡◌, ℕ, zero, suc, ◌+◌, ◌<◌, List, [], ◌∷◌, ◌++◌, length, get_or, set, take, Some, Bool, true, false, refl, sym, ap, ◌∙◌, subst, arith, inl, inr}
use Rattle.std.specs.Prelude.{slice_get, slice_index, All, Contains}
use Rattle.std.proofs.lemmas.Bool.{cases_eq}
use Rattle.std.proofs.lemmas.List.{take_more}
use Rattle.std.proofs.lemmas.Option.{slice_get-get_or}
use Rattle.std.proofs.lemmas.List.Elements.{All-weaker, Contains-append_left, Contains-push, Contains-push_cases}
use Rattle.linearize_check_layout.specs.Marks.{IsMarked, AreMarked}

pub closed_from_marked : (marked : List Bool) (nodes successors : List ℕ) → AreMarked marked nodes → All (IsMarked marked) successors → All (Contains nodes) successors
closed_from_marked marked nodes successors marks h = All-weaker (IsMarked marked) (Contains nodes) (λ n. (marks.exactly n).0) successors h

pub marked_from_closed : (marked : List Bool) (nodes successors : List ℕ) → AreMarked marked nodes → All (Contains nodes) successors → All (IsMarked marked) successors
marked_from_closed marked nodes successors marks h = All-weaker (Contains nodes) (IsMarked marked) (λ n. (marks.exactly n).1) successors h

-- a node at whose place a mark is read
pub listed_from_read : (marked : List Bool) (nodes : List ℕ) (n : ℕ) → AreMarked marked nodes → n < length marked → get_or marked n false ≡ true → Contains nodes n
listed_from_read marked nodes n marks below e = (marks.exactly n).0 (slice_get-get_or marked n false below ∙ ap Some e)

pub new_from_read : (marked : List Bool) (nodes : List ℕ) (n : ℕ) → AreMarked marked nodes → n < length marked → get_or marked n false ≡ false → ¬ Contains nodes n
new_from_read marked nodes n marks below e h =
    let clear : slice_get marked n ≡ Some false = slice_get-get_or marked n false below ∙ ap Some e in
    let mark : slice_get marked n ≡ Some true = (marks.exactly n).1 h in
    cc

-- what a write leaves
pub slice_get-set_same : {A : Type 0} (xs : List A) (i : ℕ) (y : A) → i < length xs → slice_get (set xs i y) i ≡ Some y
slice_get-set_same [] i y below = absurd (omega (arith, below))
slice_get-set_same (x ∷ xs) zero y below = refl
slice_get-set_same (x ∷ xs) (suc i) y below = slice_get-set_same xs i y (omega (arith, below))

pub slice_get-set_other : {A : Type 0} (xs : List A) (i k : ℕ) (y : A) → (k ≡ i → ⊥) → slice_get (set xs i y) k ≡ slice_get xs k
slice_get-set_other [] i k y other = refl
slice_get-set_other (x ∷ xs) zero zero y other = absurd (other refl)
slice_get-set_other (x ∷ xs) zero (suc k) y other = refl
slice_get-set_other (x ∷ xs) (suc i) zero y other = refl
slice_get-set_other (x ∷ xs) (suc i) (suc k) y other = slice_get-set_other xs i k y (λ e. other (ap suc e))

-- a table with no mark marks no node
pub marked-none : (marked : List Bool) → All (λ b. b ≡ false) marked → AreMarked marked []
marked-none marked clear = record { exactly = λ n. (unmarked marked clear n, λ h. absurd (omega (arith, h.1))) }
  where
    unmarked : (marked : List Bool) → All (λ b. b ≡ false) marked → (n : ℕ) → IsMarked marked n → Contains [] n
    unmarked [] clear n e = cc
    unmarked (b ∷ bs) clear zero e = let no : b ≡ false = clear 0 false (omega arith) in cc
    unmarked (b ∷ bs) clear (suc n) e =
        let none = unmarked bs (λ k d below. clear (suc k) d (omega (arith, below))) n e in
        absurd (omega (arith, none.1))

-- one more mark
pub marked-push : (marked : List Bool) (nodes : List ℕ) (n : ℕ) → n < length marked → AreMarked marked nodes → AreMarked (set marked n true) (nodes ++ n ∷ [])
marked-push marked nodes n below marks = record {
  exactly = λ k.
      elim (cases_eq k n) [
        | inl e ↦ (λ h. subst (Contains (nodes ++ n ∷ [])) (sym e) (Contains-push nodes n), λ h. ap (slice_get (set marked n true)) e ∙ slice_get-set_same marked n true below)
        | inr other ↦ (
          λ h. Contains-append_left nodes (n ∷ []) k ((marks.exactly k).0 (sym (slice_get-set_other marked n k true other) ∙ h)),
          λ h. slice_get-set_other marked n k true other ∙ (marks.exactly k).1 (elim (Contains-push_cases nodes n k h) [ inl before ↦ before | inr e ↦ absurd (other (sym e)) ]),
        )
      ];
}

pub marked-more : (marked : List Bool) (nodes : List ℕ) (i : ℕ) → i < length nodes → slice_index nodes i < length marked → AreMarked marked (take i nodes) → AreMarked (set marked (slice_index nodes i) true) (take (i + 1) nodes)
marked-more marked nodes i below within marks =
    subst (AreMarked (set marked (slice_index nodes i) true)) (sym (take_more nodes i 0 below)) (marked-push marked (take i nodes) (slice_index nodes i) within marks)
