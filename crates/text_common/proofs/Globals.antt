-- The line of a global tells it.
use Rattle.std.proofs.Common.{◌≡◌, ℕ, ◌+◌, ◌<◌, ◌≤◌, ◌^◌, List, [], ◌∷◌, ◌++◌, map, codes, decimal, refl, sym, ap, ◌∙◌, arith}
use Rattle.std.specs.List.{AllByRecursion}
use Rattle.std.proofs.lemmas.Fmt.{decimal_injective}
use Rattle.std.proofs.lemmas.List.{append_assoc, append_cancel_left}
use Rattle.lang_base.specs.declared.program.Global.{Global}
use Rattle.lang.specs.Form.{GlobalFits, cells_of_all, cell_limit}
use Rattle.text_keys.specs.declared.word.Word.{Word}
use Rattle.text_keys.specs.declared.word.Word.TheVariants.{Lettered, Number, Named}
use Rattle.text_keys.specs.Words.{WordFits}
use Rattle.text_keys.specs.Lines.{spaced, line_end}
use Rattle.text_keys.specs.Numbered.{numbered_text}
use Rattle.text_keys.proofs.Clear.{heads, tails, cut, Clear, Outside, numbered_clear}
use Rattle.text_keys.proofs.Keys.{is_digit}
use Rattle.text_keys.proofs.Lines.{words_tell}
use Rattle.text_keys.proofs.Words.{are_digits}
use Rattle.text_common.specs.Programs.{number_word, shown_words, shown_global}

-- its numbers are of 64 bits
pub record GlobalIsSmall (g : Global) : Type 0 where
  pub cells : g.cells < 2 ^ 64
  pub words : AllByRecursion (λ w. w < 2 ^ 64) g.first_words

small_words : (ws : List ℕ) → AllByRecursion (λ w. w < 2 ^ 32) ws → AllByRecursion (λ w. w < 2 ^ 64) ws
small_words [] fits = tt
small_words (w ∷ ws) fits = (omega (arith, fits.0), small_words ws fits.1)

pub small_globals : (gs : List Global) → cells_of_all gs ≤ cell_limit → AllByRecursion GlobalFits gs → AllByRecursion GlobalIsSmall gs
small_globals [] few fits = tt
small_globals (g ∷ gs) few fits = (record { cells = omega (arith, few); words = small_words g.first_words fits.0.words }, small_globals gs (omega (arith, few)) fits.1)

number_of : Word → ℕ
number_of (Lettered l n) = n
number_of (Number n) = n
number_of (Named k) = 0

all_numbers : (ws : List ℕ) → map number_of (map number_word ws) ≡ ws
unfolding number_of
all_numbers [] = refl
all_numbers (w ∷ ws) = ap (λ t. w ∷ t) (all_numbers ws)

fit_words : (ws : List ℕ) → AllByRecursion (λ w. w < 2 ^ 64) ws → AllByRecursion WordFits (map number_word ws)
fit_words [] fits = tt
fit_words (w ∷ ws) fits = (fits.0, fit_words ws fits.1)

numbers_tell : (vs ws : List ℕ) (r s : List ℕ) → AllByRecursion (λ w. w < 2 ^ 64) vs → AllByRecursion (λ w. w < 2 ^ 64) ws →
    (spaced (map number_word vs) ++ line_end) ++ r ≡ (spaced (map number_word ws) ++ line_end) ++ s → (vs ≡ ws) × (r ≡ s)
numbers_tell vs ws r s fits fits' e =
    let told = words_tell (map number_word vs) (map number_word ws) r s (fit_words vs fits) (fit_words ws fits')
    (sym (append_assoc (spaced (map number_word vs)) line_end r) ∙ e ∙ append_assoc (spaced (map number_word ws)) line_end s) in
    (sym (all_numbers vs) ∙ ap (map number_of) told.0 ∙ all_numbers ws, told.1)

listed_tell : (vs ws : List ℕ) (r s : List ℕ) → AllByRecursion (λ w. w < 2 ^ 64) vs → AllByRecursion (λ w. w < 2 ^ 64) ws →
    (shown_words vs ++ line_end) ++ r ≡ (shown_words ws ++ line_end) ++ s → (vs ≡ ws) × (r ≡ s)
listed_tell [] [] r s fits fits' e = (refl, tails 10 10 r s e)
listed_tell [] (w ∷ ws) r s fits fits' e = absurd (let b : 10 ≡ 32 = heads 10 32 r _ e in omega arith)
listed_tell (v ∷ vs) [] r s fits fits' e = absurd (let b : 32 ≡ 10 = heads 32 10 _ s e in omega arith)
listed_tell (v ∷ vs) (w ∷ ws) r s fits fits' e = numbers_tell (v ∷ vs) (w ∷ ws) r s fits fits' (append_cancel_left (codes " =") _ _ e)

abbrev behind : Global → List ℕ
behind g = shown_words g.first_words ++ line_end

-- what stands behind the number
abbrev cells : Global → List ℕ
cells g = decimal g.cells ++ (codes "]" ++ behind g)

cells_tell : (g h : Global) (r s : List ℕ) → GlobalIsSmall g → GlobalIsSmall h → cells g ++ r ≡ cells h ++ s → (g ≡ h) × (r ≡ s)
cells_tell g h r s fits fits' e =
    let parts = cut is_digit (decimal g.cells) (decimal h.cells) 93 93 (behind g ++ r) (behind h ++ s) (are_digits g.cells fits.cells).1 (are_digits h.cells fits'.cells).1 refl refl
    (sym (append_assoc (decimal g.cells) (93 ∷ behind g) r) ∙ e ∙ append_assoc (decimal h.cells) (93 ∷ behind h) s) in
    let listed = listed_tell g.first_words h.first_words r s fits.words fits'.words (tails 93 93 _ _ parts.1) in
    let count = decimal_injective g.cells h.cells fits.cells fits'.cells parts.0 in
    (λ i. record { cells = count i; first_words = listed.0 i }, listed.1)

global_clear : (n : ℕ) → Clear (shown_global n) GlobalIsSmall (λ _. Unit {0})
global_clear n g h r s fits fits' ends ends' e =
    let number : (decimal n ++ (codes "[" ++ cells g)) ++ r ≡ (decimal n ++ (codes "[" ++ cells h)) ++ s = append_cancel_left (codes "global g") _ _ e in
    let rest = append_cancel_left (decimal n) _ _ (sym (append_assoc (decimal n) (codes "[" ++ cells g) r) ∙ number ∙ append_assoc (decimal n) (codes "[" ++ cells h) s) in
    cells_tell g h r s fits fits' (tails 91 91 _ _ rest)

-- globals are told, where what stands behind them begins with no "g"
pub globals_clear : (n : ℕ) → Clear (numbered_text shown_global n) (AllByRecursion GlobalIsSmall) (Outside 103)
globals_clear = numbered_clear shown_global GlobalIsSmall (λ _. Unit {0}) (Outside 103) 103 (λ n g. (_, refl)) global_clear (λ r ends. tt) (λ r ends. ends) (λ r. tt)
