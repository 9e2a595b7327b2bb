-- The start of a run: its cells, and main's caller.
use Rattle.std.proofs.Common.{◌≡◌, ℕ, zero, suc, ◌+◌, List, [], ◌∷◌, ◌++◌, get_or, Some, None, refl, ap, ◌∙◌, add-one}
use Rattle.c_program.specs.declared.action.Target.TheVariants.{Caller}
use Rattle.c_program.specs.Meaning.{Outcome, Falls, Breaks, Continues, Returns, RunsOut, Fails, comes_back, goes_on, shown, filled}

filled_suc : (n : ℕ) (words : List ℕ) → filled (suc n) words ≡ filled n words ++ get_or words n 0 ∷ []
filled_suc zero [] = refl
filled_suc zero (w ∷ ws) = refl
filled_suc (suc n) [] = ap (λ l. 0 ∷ l) (filled_suc n [])
filled_suc (suc n) (w ∷ ws) = ap (λ l. w ∷ l) (filled_suc n ws)

pub filled_more : (n : ℕ) (words : List ℕ) → filled (n + 1) words ≡ filled n words ++ get_or words n 0 ∷ []
filled_more n words = ap (λ k. filled k words) (add-one n) ∙ filled_suc n words

-- a caller of main shows what main shows
pub shown_main : (o : Outcome) → shown (goes_on Falls (comes_back Caller [] o)) ≡ shown o
shown_main (Falls s) = refl
shown_main (Breaks s) = refl
shown_main (Continues s) = refl
shown_main (Returns None s) = refl
shown_main (Returns (Some w) s) = refl
shown_main (RunsOut printed) = refl
shown_main (Fails printed) = refl
