-- The words that are listed of a global: those without the zeros at the end.
use Rattle.std.proofs.Common.{◌≡◌, ℕ, zero, suc, ◌-◌, ◌<◌, ◌≤◌, ◌^◌, true, false, List, [], ◌∷◌, length, map, get_or, refl, sym, ap, ◌∙◌, arith}
use Rattle.std.specs.Prelude.{nat_eq, not, ◌||◌, IsTrue}
use Rattle.std.specs.List.{AllByRecursion}
use Rattle.std.proofs.lemmas.Bool.{ne_eqb}
use Rattle.c_program.specs.declared.function.GlobalVariable.{GlobalVariable}
use Rattle.cminor_lowering.specs.Programs.{listed, without_zeros, low_global}
use Rattle.cminor_lowering_ranges.specs.Globals.{IsSized}
use Rattle.lang.specs.Form.{ends_well, GlobalFits}

listed_count : (w : ℕ) (ws : List ℕ) → length (listed w ws) ≤ suc (length ws)
listed_count zero [] = omega arith
listed_count zero (v ∷ vs) = omega arith
listed_count (suc w) ws = omega arith

pub count : (ws : List ℕ) → length (without_zeros ws) ≤ length ws
count [] = omega arith
count (w ∷ ws) = omega (arith, listed_count w (without_zeros ws), count ws)

listed_words : (P : ℕ → Type 0) (w : ℕ) (ws : List ℕ) → P w → AllByRecursion P ws → AllByRecursion P (listed w ws)
listed_words P zero [] one all = tt
listed_words P zero (v ∷ vs) one all = (one, all)
listed_words P (suc w) ws one all = (one, all)

pub words : (P : ℕ → Type 0) (ws : List ℕ) → AllByRecursion P ws → AllByRecursion P (without_zeros ws)
words P [] all = tt
words P (w ∷ ws) all = listed_words P w (without_zeros ws) all.0 (words P ws all.1)

-- ---- the last word

not_none : (n : ℕ) → nat_eq (suc n) 0 ≡ false
not_none n = ne_eqb (suc n) 0 (λ e. omega arith)

last_is : (w : ℕ) (ws : List ℕ) → ends_well (w ∷ ws) ≡ not (nat_eq (get_or (w ∷ ws) (length ws) 0) 0)
last_is w ws =
    let k : length (w ∷ ws) - 1 ≡ length ws = omega arith in
    ap (λ z. z || not (nat_eq (get_or (w ∷ ws) (length (w ∷ ws) - 1) 0) 0)) (not_none (length ws)) ∙ ap (λ n. not (nat_eq (get_or (w ∷ ws) n 0) 0)) k

same_end : (w v : ℕ) (vs : List ℕ) → ends_well (w ∷ v ∷ vs) ≡ ends_well (v ∷ vs)
same_end w v vs = last_is w (v ∷ vs) ∙ sym (last_is v vs)

alone : (w : ℕ) → ends_well (suc w ∷ []) ≡ true
alone w = last_is (suc w) [] ∙ ap not (not_none w)

listed_end : (w : ℕ) (ws : List ℕ) → IsTrue (ends_well ws) → IsTrue (ends_well (listed w ws))
listed_end zero [] well = refl
listed_end zero (v ∷ vs) well = same_end zero v vs ∙ well
listed_end (suc w) [] well = alone w
listed_end (suc w) (v ∷ vs) well = same_end (suc w) v vs ∙ well

pub end : (ws : List ℕ) → IsTrue (ends_well (without_zeros ws))
end [] = refl
end (w ∷ ws) = listed_end w (without_zeros ws) (end ws)

pub global_fits : (g : GlobalVariable) → IsSized g → AllByRecursion (λ w. w < 2 ^ 32) g.first_words → GlobalFits (low_global g)
global_fits g sized all =
    let few = sized.listed in
    record { some = sized.some; listed = omega (arith, count g.first_words, few); words = words (λ w. w < 2 ^ 32) g.first_words all; last = end g.first_words }

pub globals_fit : (gs : List GlobalVariable) → AllByRecursion IsSized gs → AllByRecursion (λ g. AllByRecursion (λ w. w < 2 ^ 32) g.first_words) gs → AllByRecursion GlobalFits (map low_global gs)
globals_fit [] sized all = tt
globals_fit (g ∷ gs) sized all = (global_fits g sized.0 all.0, globals_fit gs sized.1 all.1)
