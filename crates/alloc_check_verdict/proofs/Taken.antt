-- Lists that are taken from where an instruction goes on.
use Rattle.std.proofs.Common.{◌≡◌, ℕ, zero, suc, ◌<◌, List, [], ◌∷◌, ◌++◌, length, get_or, Option, Some, None, Bool, true, false, cond, refl, sym, ap, ◌∙◌, subst, arith, inl, inr}
use Rattle.std.specs.Prelude.{◌↔◌, Contains, slice_get, slice_set}
use Rattle.std.specs.List.{flat_map}
use Rattle.std.proofs.lemmas.List.{length-set, get_or-set_other, append-nil}
use Rattle.std.proofs.lemmas.List.Elements.{Contains-append_left, Contains-append_right, Contains-append_cases}
use Rattle.rtl_passes_marks.specs.Handing.{is_fed_by, standing, left_by}
use Rattle.rtl_passes_marks.proofs.Handings.{left_count}
use Rattle.alloc_check_rules.specs.declared.equation.Equation.{Equation}
use Rattle.alloc_check_rules.specs.Rules.{equations_at}
use Rattle.alloc_check_proof.specs.Sets.{SameSet}
use Rattle.alloc_check_proof.proofs.Members.{first_of, later_of}
use Rattle.alloc_check_proof.proofs.Blocks.{same_of}
use Rattle.alloc_check_verdict.specs.Walk.{stands_at, AreTaken}

left_keeps : (o : Option (Option ℕ)) (s k : ℕ) (lists : List (List Equation)) → (k ≡ s → is_fed_by o ≡ false) → equations_at (left_by o s lists) k ≡ equations_at lists k
left_keeps o s k lists marked = at (is_fed_by o) marked
  where
    at : (b : Bool) → (k ≡ s → b ≡ false) → equations_at (cond b (slice_set lists s []) lists) k ≡ equations_at lists k
    at false marked = refl
    at true marked = get_or-set_other lists s k [] [] (λ same. absurd (let impossible : true ≡ false = marked same in cc))

left_length : (o : Option (Option ℕ)) (s : ℕ) (lists : List (List Equation)) → length (left_by o s lists) ≡ length lists
left_length o s lists = left_count o s lists

pub taken_none : (feeders : List (Option ℕ)) (lists : List (List Equation)) → AreTaken feeders [] lists lists
taken_none feeders lists = record { count = refl; kept = λ k marked. refl }

pub taken_one : (feeders : List (Option ℕ)) (s : ℕ) (lists new : List (List Equation)) → new ≡ left_by (slice_get feeders s) s lists → AreTaken feeders (s ∷ []) lists new
taken_one feeders s lists new is = record {
  count = ap length is ∙ left_length (slice_get feeders s) s lists;
  kept = λ k marked.
      ap (λ ls. equations_at ls k) is
      ∙ left_keeps (slice_get feeders s) s k lists (λ same. subst (λ j. is_fed_by (slice_get feeders j) ≡ false) same (marked (subst (λ j. Contains (s ∷ []) j) (sym same) (first_of s []))));
}

pub taken_two : (feeders : List (Option ℕ)) (s t : ℕ) (lists mid new : List (List Equation)) → mid ≡ left_by (slice_get feeders s) s lists → new ≡ left_by (slice_get feeders t) t mid → AreTaken feeders (s ∷ (t ∷ [])) lists new
taken_two feeders s t lists mid new is also =
    let one = taken_one feeders s lists mid is in
    let two = taken_one feeders t mid new also in
    record {
      count = two.count ∙ one.count;
      kept = λ k marked.
          two.kept k (λ h. marked (later_of s (t ∷ []) k h))
          ∙ one.kept k (λ h. marked (Contains-append_left (s ∷ []) (t ∷ []) k h));
    }

-- both arms of a branch lead to one node
pub taken_both : (feeders : List (Option ℕ)) (s t : ℕ) (lists new : List (List Equation)) → s ≡ t → new ≡ left_by (slice_get feeders s) s lists → AreTaken feeders (s ∷ (t ∷ [])) lists new
taken_both feeders s t lists new same is =
    let one = taken_one feeders s lists new is in
    record { count = one.count; kept = λ k marked. one.kept k (λ h. marked (Contains-append_left (s ∷ []) (t ∷ []) k h)) }

-- ---- what was taken

pub behind_one : (at : ℕ → List Equation) (s : ℕ) (found : List Equation) → found ≡ at s → SameSet found (flat_map at (s ∷ []))
behind_one at s found is = same_of found (at s ++ []) (is ∙ sym (append-nil (at s)))

pub behind_two : (at : ℕ → List Equation) (s t : ℕ) (found : List Equation) → found ≡ at s ++ at t → SameSet found (flat_map at (s ∷ (t ∷ [])))
behind_two at s t found is = same_of found (at s ++ (at t ++ [])) (is ∙ ap (λ xs. at s ++ xs) (sym (append-nil (at t))))

pub behind_both : (at : ℕ → List Equation) (s t : ℕ) (found : List Equation) → s ≡ t → found ≡ at s → SameSet found (flat_map at (s ∷ (t ∷ [])))
behind_both at s t found same is e = (
  λ among. Contains-append_left (at s) (at t ++ []) e (subst (λ xs. Contains xs e) is among),
  λ among. subst (λ xs. Contains xs e) (sym is) (elim (Contains-append_cases (at s) (at t ++ []) e among) [
    | inl here ↦ here
    | inr later ↦ subst (λ j. Contains (at j) e) (sym same) (subst (λ xs. Contains xs e) (append-nil (at t)) later)
  ]),
)

-- what stands at a node is left by another's taking
pub stands_still : (feeders : List (Option ℕ)) (said : List (List Equation)) (s t : ℕ) (lists : List (List Equation)) → ¬ (t ≡ s) → stands_at feeders said (left_by (slice_get feeders s) s lists) t ≡ stands_at feeders said lists t
stands_still feeders said s t lists other = ap (λ es. cond (is_fed_by (slice_get feeders t)) es (equations_at said t)) (left_keeps (slice_get feeders s) s t lists (λ same. absurd (other same)))
