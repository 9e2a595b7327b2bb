-- The globals of the Cminor program begin with the words of those of C.
use Rattle.std.proofs.Common.{◌≡◌, ℕ, zero, suc, List, [], ◌∷◌, map, refl, sym, ap, ◌∙◌}
use Rattle.c_program.specs.declared.function.GlobalVariable.{GlobalVariable}
use Rattle.c_program.specs.Meaning as C
use Rattle.cminor_syntax.specs.Frames.{cells_of}
use Rattle.cminor_lowering.specs.Programs.{listed, without_zeros, low_global}

-- so many cells that begin with these words
abbrev cells : ℕ → List ℕ → List ℕ
cells n words = cells_of (record { cells = n; first_words = words })

cells_same : (n : ℕ) (words : List ℕ) → C.cells_of (record { cells = n; first_words = words }) ≡ cells n words
cells_same zero words = refl
cells_same (suc n) [] = ap (λ l. 0 ∷ l) (cells_same n [])
cells_same (suc n) (w ∷ ws) = ap (λ l. w ∷ l) (cells_same n ws)

listed_cells : (n w : ℕ) (ws : List ℕ) → cells (suc n) (listed w ws) ≡ w ∷ cells n ws
listed_cells n zero [] = refl
listed_cells n zero (v ∷ ws) = refl
listed_cells n (suc w) ws = refl

trimmed_cells : (n : ℕ) (words : List ℕ) → cells n (without_zeros words) ≡ cells n words
trimmed_cells zero words = refl
trimmed_cells (suc n) [] = refl
trimmed_cells (suc n) (w ∷ ws) = listed_cells n w (without_zeros ws) ∙ ap (λ l. w ∷ l) (trimmed_cells n ws)

pub globals_same : (gs : List GlobalVariable) → map cells_of (map low_global gs) ≡ map C.cells_of gs
globals_same [] = refl
globals_same (g ∷ gs) = λ k. (trimmed_cells g.cells g.first_words ∙ sym (cells_same g.cells g.first_words)) k ∷ globals_same gs k
