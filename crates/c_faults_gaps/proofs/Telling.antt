-- A term has a word or a gap, and not both.
use Rattle.std.proofs.Common.{◌≡◌, ℕ, List, Option, Some, None, is_some, not, refl, sym, ap, ◌∙◌}
use Rattle.c_program.specs.Trees.{TermTree}
use Rattle.c_program.specs.Values.{Variables, value}
use Rattle.c_faults.specs.declared.gap.Gap.{Gap}
use Rattle.c_faults.specs.Gaps.{gap}
use Rattle.c_faults.proofs.Gaps.{not_none, not_both, gap-tells}

pub no_gap : (ps : List ℕ) (v : Variables) (e : TermTree) (w : ℕ) → Some w ≡ value v e → gap ps v e ≡ None
no_gap ps v e w is = at (gap ps v e) (gap-tells ps v e ∙ ap (λ x. not (is_some x)) (sym is))
  where
    at : (found : Option Gap) → is_some found ≡ not (is_some (Some w)) → found ≡ None
    at None e = refl
    at (Some g) e = not_both e

pub some_gap : (ps : List ℕ) (v : Variables) (e : TermTree) → None ≡ value v e → None ≡ gap ps v e → ⊥
some_gap ps v e is none = not_none (ap is_some none ∙ gap-tells ps v e ∙ ap (λ x. not (is_some x)) (sym is))
