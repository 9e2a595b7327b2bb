-- A change of nothing keeps all equations.
use Rattle.std.proofs.Common.{◌≡◌, List, [], ◌∷◌, Bool, true, false, cond, refl, ap, ◌∙◌}
use Rattle.std.specs.Prelude.{◌||◌, not}
use Rattle.std.specs.List.{filter}
use Rattle.cse_check_rules.specs.declared.equation.Equation.{Equation}
use Rattle.cse_check_rules.specs.Equations.{overwrites}
use Rattle.cse_check.specs.declared.change.Change.{Change}
use Rattle.cse_check.specs.Change.{disturbed, keeps, ChangesNothing}

one_kept : (change : Change) → ChangesNothing change → (e : Equation) → keeps change e ≡ true
one_kept change nothing e =
    ap (λ written. not (overwrites written e || disturbed change.cells e.right)) nothing.written ∙ ap (λ cells. not (disturbed cells e.right)) nothing.cells

pub all_kept : (change : Change) → ChangesNothing change → (es : List Equation) → filter (keeps change) es ≡ es
all_kept change nothing [] = refl
all_kept change nothing (e ∷ es) = at (keeps change e) (one_kept change nothing e) (all_kept change nothing es)
  where
    at : (b : Bool) → b ≡ true → filter (keeps change) es ≡ es → cond b (e ∷ filter (keeps change) es) (filter (keeps change) es) ≡ e ∷ es
    at true is later = ap (λ kept. e ∷ kept) later
    at false is later = cc (is)
