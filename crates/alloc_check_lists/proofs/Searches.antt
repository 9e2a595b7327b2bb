-- A rank is searched among equations in order by halves.
use Rattle.std.proofs.Common.{◌≡◌, ℕ, ◌+◌, ◌<◌, ◌≤◌, List, length, get_or, true, false, sym, ap, ◌∙◌, subst, arith, inl, inr}
use Rattle.std.specs.Prelude.{◌↔◌, Contains}
use Rattle.std.proofs.lemmas.Bool.{cases_eq, cases_lt}
use Rattle.std.proofs.lemmas.List.{get_or_default}
use Rattle.alloc_check_fill.specs.Equation.{Equation}
use Rattle.alloc_check_fill.specs.Ranks.{rank}
use Rattle.alloc_check_lists.specs.Ranks.{RiseFrom}
use Rattle.alloc_check_lists.proofs.Ranks.{higher}

-- those before low are lower, and those from high on are not
pub record IsBetween (es : List Equation) (least low high : ℕ) : Type 0 where
  pub order : low ≤ high
  pub within : high ≤ length es
  pub lower : (k : ℕ) (d : Equation) → k < low → rank (get_or es k d) < least
  pub upper : (k : ℕ) (d : Equation) → high ≤ k → k < length es → least ≤ rank (get_or es k d)

module _ (es : List Equation) (least low high middle : ℕ) (rise : RiseFrom 0 es) (between : IsBetween es least low high) (e : Equation) (from : low ≤ middle) (below : middle < high) where
  no_later : (k : ℕ) (d : Equation) → k ≤ middle → rank (get_or es k d) ≤ rank (get_or es middle e)
  no_later k d le =
      let inside : middle < length es = omega (arith, below, between.within) in
      elim (cases_eq k middle) [
        | inl same ↦ subst (λ (f : Equation). rank f ≤ rank (get_or es middle e)) (sym (ap (λ j. get_or es j d) same ∙ get_or_default es middle d e inside)) (omega arith)
        | inr other ↦
            let to_e : get_or es middle d ≡ get_or es middle e = get_or_default es middle d e inside in
            let less : rank (get_or es k d) < rank (get_or es middle d) = higher es 0 k middle d rise (omega arith) inside in
            omega (arith, less, ap rank to_e)
      ]

  no_earlier : (k : ℕ) (d : Equation) → middle ≤ k → k < length es → rank (get_or es middle e) ≤ rank (get_or es k d)
  no_earlier k d le inside =
      let there : middle < length es = omega (arith, below, between.within) in
      let to_e : get_or es middle d ≡ get_or es middle e = get_or_default es middle d e there in
      elim (cases_eq k middle) [
        | inl same ↦ subst (λ (f : Equation). rank (get_or es middle e) ≤ rank f) (sym (ap (λ j. get_or es j d) same ∙ to_e)) (omega arith)
        | inr other ↦
            let less : rank (get_or es middle d) < rank (get_or es k d) = higher es 0 middle k d rise (omega arith) inside in
            omega (arith, less, ap rank to_e)
      ]

  pub go_up : rank (get_or es middle e) < least → IsBetween es least (middle + 1) high
  go_up less = record {
    order = omega (arith, below);
    within = between.within;
    lower = λ k d le. omega (arith, no_later k d (omega (arith, le)), less);
    upper = between.upper;
  }

  pub go_down : least ≤ rank (get_or es middle e) → IsBetween es least low middle
  go_down more = record {
    order = from;
    within = omega (arith, below, between.within);
    lower = between.lower;
    upper = λ k d le inside. omega (arith, no_earlier k d le inside, more);
  }

-- where all are lower, or none is there, it is not among them
module _ (es : List Equation) (e : Equation) (first : ℕ) (lower : (k : ℕ) (d : Equation) → k < first → rank (get_or es k d) < rank e) where
  pub none_there : first ≡ length es → (false ≡ true) ↔ Contains es e
  none_there past = (
    λ no. absurd (let impossible : false ≡ true = no in cc),
    λ among. absurd (omega (arith, lower among.0 e (omega (arith, among.1, past)), ap rank among.2)),
  )

  -- one of this rank can only be the first that is not lower
  pub only_first : RiseFrom 0 es → (f : Equation) → first < length es → ((k : ℕ) (d : Equation) → first ≤ k → k < length es → rank e ≤ rank (get_or es k d)) → (get_or es first f ≡ e) ↔ Contains es e
  only_first rise f within upper = (
    λ is. (first, within, get_or_default es first e f within ∙ is),
    λ among. at among.0 among.1 among.2,
  )
    where
      at : (k : ℕ) → k < length es → get_or es k e ≡ e → get_or es first f ≡ e
      at k below is =
          elim (cases_lt k first) [
            | inl less ↦ absurd (omega (arith, lower k e less, ap rank is))
            | inr past ↦ elim (cases_eq k first) [
              | inl same ↦ get_or_default es first f e within ∙ (sym (ap (λ j. get_or es j e) same) ∙ is)
              | inr other ↦ absurd (omega (arith, upper first e (omega arith) within, higher es 0 first k e rise (omega (arith, past, other)) below, ap rank is))
            ]
          ]
