-- The cells at the start of a run.
use Rattle.std.proofs.Common.{◌≡◌, ℕ, zero, suc, ◌+◌, List, [], ◌∷◌, ◌++◌, get_or, refl, ap, ◌∙◌, add-one}
use Rattle.c_program.specs.Meaning.{filled}

filled_suc : (n : ℕ) (words : List ℕ) → filled (suc n) words ≡ filled n words ++ get_or words n 0 ∷ []
filled_suc zero [] = refl
filled_suc zero (w ∷ ws) = refl
filled_suc (suc n) [] = ap (λ l. 0 ∷ l) (filled_suc n [])
filled_suc (suc n) (w ∷ ws) = ap (λ l. w ∷ l) (filled_suc n ws)

pub filled_more : (n : ℕ) (words : List ℕ) → filled (n + 1) words ≡ filled n words ++ get_or words n 0 ∷ []
filled_more n words = ap (λ k. filled k words) (add-one n) ∙ filled_suc n words
