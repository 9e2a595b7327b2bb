-- Rows with their form are few.
use Rattle.std.proofs.Common.{◌≡◌, ℕ, suc, ◌+◌, ◌<◌, ◌≤◌, List, [], ◌∷◌, length, arith}
use Rattle.std.specs.Prelude.{All}
use Rattle.rtl_passes_marks.specs.Ranked.{RiseFrom}

-- whatever rises from here and stays below a bound is no more than lies between
pub few_between : {A : Type 0} (rank : A → ℕ) (lower bound : ℕ) (xs : List A) → RiseFrom rank lower xs → All (λ x. rank x < bound) xs → lower ≤ bound → lower + length xs ≤ bound
few_between rank lower bound [] rise below le = omega (arith, le)
few_between rank lower bound (x ∷ xs) rise below le =
    let here : rank x < bound = below 0 x (omega arith) in
    omega (arith, rise.0, few_between rank (suc (rank x)) bound xs rise.1 (λ k d within. below (suc k) d (omega (arith, within))) (omega (arith, here)))
