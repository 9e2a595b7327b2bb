-- Whether an equation is among others, as a loop over them tells.
use Rattle.std.proofs.Common.{◌≡◌, ℕ, ◌+◌, ◌<◌, ◌≤◌, List, length, get_or, true, false, refl, sym, ap, ◌∙◌, arith, inl, inr}
use Rattle.std.specs.Prelude.{◌↔◌, Contains}
use Rattle.std.proofs.lemmas.Bool.{cases_eq}
use Rattle.std.proofs.lemmas.List.{get_or_default}
use Rattle.cse_check_rules.specs.declared.equation.Equation.{Equation}

-- it is none of the first
abbrev pub IsNoneOf : List Equation → Equation → ℕ → Type 0
IsNoneOf es e i = (k : ℕ) → k < i → get_or es k e ≡ e → ⊥

module _ (es : List Equation) (e : Equation) (i : ℕ) (d : Equation) (below : i < length es) where
  pub none_more : ¬ (get_or es i d ≡ e) → IsNoneOf es e i → IsNoneOf es e (i + 1)
  none_more wrong none k less same =
      elim (cases_eq k i) [
        | inl here ↦ wrong (get_or_default es i d e below ∙ ap (λ j. get_or es j e) (sym here) ∙ same)
        | inr other ↦ none k (omega arith) same
      ]

  pub found : get_or es i d ≡ e → (true ≡ true) ↔ Contains es e
  found is = (λ yes. (i, below, get_or_default es i e d below ∙ is), λ among. refl)

pub none_found : (es : List Equation) (e : Equation) (i : ℕ) → length es ≤ i → IsNoneOf es e i → (false ≡ true) ↔ Contains es e
none_found es e i past none = (
  λ no. absurd (let impossible : false ≡ true = no in cc),
  λ among. absurd (none among.0 (omega (arith, among.1, past)) among.2),
)
