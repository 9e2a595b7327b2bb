-- The answer to each job, among the answers to all.
use Rattle.std.proofs.Common.{◌≡◌, ℕ, zero, suc, Bool, true, false, List, [], ◌∷◌, length, get_or, Some, refl, sym, ap, subst, ◌∙◌}
use Rattle.std.specs.Prelude.{slice_get}
use Rattle.std.proofs.lemmas.Bool.{false≢true}
use Rattle.offers.specs.declared.parts.Parts.{Parts}
use Rattle.parallel_validate.specs.Verdicts.{IsAnswer, AreAnswers}
use Rattle.farm_nodes_open_offers.specs.Known.{IsAccepted}

module _ {I O C : Type 0} (accepts : I → O → C → Type 0) where
  pub as_many : (xs : List (Parts I O C)) (answers : List Bool) → AreAnswers accepts xs answers → length answers ≡ length xs
  as_many [] [] are = refl
  as_many [] (b ∷ bs) are = absurd are
  as_many (x ∷ xs) [] are = absurd are
  as_many (x ∷ xs) (b ∷ bs) are = ap suc (as_many xs bs are.1)

  answer_is : (xs : List (Parts I O C)) (answers : List Bool) → AreAnswers accepts xs answers → (i : ℕ) (x : Parts I O C) → slice_get xs i ≡ Some x → IsAnswer accepts x (get_or answers i false)
  answer_is [] answers are i x got = absurd (cc)
  answer_is (y ∷ xs) [] are i x got = absurd are
  answer_is (y ∷ xs) (b ∷ bs) are zero x got =
      let same : y ≡ x = cc in
      subst (λ z. IsAnswer accepts z b) same are.0
  answer_is (y ∷ xs) (b ∷ bs) are (suc i) x got = answer_is xs bs are.1 i x got

  module _ (xs : List (Parts I O C)) (answers : List Bool) (are : AreAnswers accepts xs answers) (i : ℕ) (x : Parts I O C) (got : slice_get xs i ≡ Some x) where
    pub accepted : get_or answers i false ≡ true → IsAccepted accepts x
    accepted told = (answer_is xs answers are i x got).0 told

    pub unaccepted : get_or answers i false ≡ false → IsAccepted accepts x → ⊥
    unaccepted told holds = false≢true (sym told ∙ (answer_is xs answers are i x got).1 holds)
