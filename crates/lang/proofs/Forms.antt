-- What stands before the functions, and a function's name, are forms: each text is read again, and nothing else is.
use Rattle.std.proofs.Common.{◌≡◌, ℕ, ◌+◌, ◌<◌, ◌≤◌, ◌^◌, true, List, [], ◌∷◌, ◌++◌, length, Ok, refl, ap, subst, ◌∙◌, arith}
use Rattle.std.specs.Prelude.{not, nat_eq, nat_le}
use Rattle.std.specs.Int.{w16, w32, to_be_bytes}
use Rattle.std.specs.List.{AllByRecursion, flat_map}
use Rattle.std.proofs.lemmas.Bool.{leb-true, le-leb}
use Rattle.std.proofs.lemmas.Bool.Decides.{nat_tests}
use Rattle.lang_base.specs.declared.errors.FormError.TheVariants.{NotCanonical, TooLarge}
use Rattle.lang_base.specs.Reading.{Reading, byte, number, below, up_to, counted}
use Rattle.lang_base.specs.Texts.{counted_text, EachFits}
use Rattle.lang_base.specs.declared.program.Global.{Global}
use Rattle.lang_base.proofs.Forms.{IsForm}
use Rattle.lang_base.proofs.Parts.{byte_form, number16_form, number32_form, made_form, tested_form, fits_form, below_form, up_to_form, both_form}
use Rattle.lang_base.proofs.Lists.{counted_form, each_fits, fits_each, tagged_form}
use Rattle.c_lexer_lexemes.specs.Lexemes.{IsName}
use Rattle.lang.specs.Form.{global_limit, cell_limit, function_limit, name_limit, ends_well, GlobalFits, cells_of_all, byte_text, global_text, globals_text, head_text, name_text}
use Rattle.lang.specs.Reading.{is_name, name, cells, words, global, globals, body, head}
use Rattle.lang.proofs.NameTests.{name_is, is_a_name, name_bytes}

-- ---- a name

pub record NameFits (n : List ℕ) : Type 0 where
  pub name : IsName n
  pub short : length n ≤ name_limit

abbrev BytesFit : List ℕ → Type 0
BytesFit n = (length n < 256) × EachFits (λ before b. b < 256) [] n

-- each byte of a name stands for itself
bytes_text : (n : List ℕ) → flat_map byte_text n ≡ n
bytes_text [] = refl
bytes_text (b ∷ n) = ap (λ l. b ∷ l) (bytes_text n)

bytes_form : IsForm (counted byte (λ before. byte)) (counted_text byte_text byte_text) BytesFit
bytes_form = counted_form (λ before. byte) byte_text (λ before b. b < 256) (λ before. byte_form) byte byte_text (λ n. n < 256) byte_form

-- the same form, with its text written otherwise
text_form : {A : Type 0} {reading : Reading A} {text text' : A → List ℕ} {Fits : A → Type 0} → IsForm reading text Fits → ((x : A) → text x ≡ text' x) → IsForm reading text' Fits
text_form {reading = reading} form e = record {
  takes = λ bytes x rest are read. let t = form.takes bytes x rest are read in record { parts = t.parts ∙ ap (λ l. l ++ rest) (e x); fits = t.fits };
  again = λ x rest fits. subst (λ l. reading (l ++ rest) ≡ Ok (x, rest)) (e x) (form.again x rest fits);
}

pub name_form : IsForm name name_text NameFits
unfolding name
name_form =
    tested_form is_name NotCanonical (text_form bytes_form (λ n. ap (λ l. length n ∷ l) (bytes_text n))) NameFits
    (λ n fits passes. record { name = name_is n passes; short = omega (arith, fits.0) })
    (λ n fits.
    let few : length n < 256 = omega (arith, fits.short) in
    let fit : BytesFit n = (few, fits_each (λ b. b < 256) [] n (name_bytes n fits.name)) in
    (fit, is_a_name n fits.name))

-- ---- a global

abbrev CellsFit : ℕ → ℕ → Type 0
CellsFit total n = (0 < n) × (total + n ≤ cell_limit)

not_zero : (n : ℕ) → not (nat_eq n 0) ≡ true → 0 < n
not_zero n e = grind (arith, nat_tests)

zero_not : (n : ℕ) → 0 < n → not (nat_eq n 0) ≡ true
zero_not n lt = grind (arith, nat_tests)

cells_form : (total : ℕ) → IsForm (cells total) (to_be_bytes w32) (CellsFit total)
unfolding cells
cells_form total =
    tested_form (λ n. nat_le (total + n) cell_limit) TooLarge
    (tested_form (λ n. not (nat_eq n 0)) NotCanonical number32_form (λ n. (0 < n) × (n < 2 ^ 32)) (λ n fits passes. (not_zero n passes, fits)) (λ n fits. (fits.1, zero_not n fits.0)))
    (CellsFit total)
    (λ n fits passes. (fits.0, leb-true (total + n) cell_limit passes))
    (λ n fits. let small : n < 2 ^ 32 = omega (arith, fits.1) in ((fits.0, small), le-leb (total + n) cell_limit fits.1))

pub record WordsFit (n : ℕ) (ws : List ℕ) : Type 0 where
  pub listed : length ws ≤ n
  pub words : AllByRecursion (λ w. w < 2 ^ 32) ws
  pub last : ends_well ws ≡ true

abbrev words_text : List ℕ → List ℕ
words_text ws = counted_text (to_be_bytes w32) (to_be_bytes w32) ws

abbrev ListedFit : ℕ → List ℕ → Type 0
ListedFit n ws = (length ws < n + 1) × EachFits (λ before w. w < 2 ^ 32) [] ws

words_form : (n : ℕ) → n ≤ cell_limit → IsForm (words n) words_text (WordsFit n)
unfolding words
words_form n few =
    tested_form ends_well NotCanonical
    (counted_form (λ before. number w32) (to_be_bytes w32) (λ before w. w < 2 ^ 32) (λ before. number32_form) (below (n + 1) (number w32)) (to_be_bytes w32) (λ k. k < n + 1) (below_form (n + 1) number32_form (λ k lt. omega arith)))
    (WordsFit n)
    (λ ws fits passes. record { listed = omega (arith, fits.0); words = each_fits (λ w. w < 2 ^ 32) [] ws fits.1; last = passes })
    (λ ws fits.
    let lt : length ws < n + 1 = omega (arith, fits.listed) in
    let fit : ListedFit n ws = (lt, fits_each (λ w. w < 2 ^ 32) [] ws fits.words) in
    (fit, fits.last))

-- a global behind others of so many cells
abbrev PlacedFits : ℕ → Global → Type 0
PlacedFits total g = GlobalFits g × (total + g.cells ≤ cell_limit)

global_form : (total : ℕ) → IsForm (global total) global_text (PlacedFits total)
unfolding global
global_form total =
    made_form (λ (p : ℕ × List ℕ). record { cells = p.0; first_words = p.1 })
    (both_form (cells total) (to_be_bytes w32) (CellsFit total) (cells_form total) (λ n. words n) (λ n. words_text) (λ n. WordsFit n) (λ n fits. let few : n ≤ cell_limit = omega (arith, fits.1) in words_form n few))
    global_text (PlacedFits total)
    (λ p fits. (refl, (record { some = fits.0.0; listed = fits.1.listed; words = fits.1.words; last = fits.1.last }, fits.0.1)))
    (λ g fits. ((g.cells, g.first_words), ((fits.0.some, fits.1), record { listed = fits.0.listed; words = fits.0.words; last = fits.0.last }), refl))

abbrev Placed : List Global → Global → Type 0
Placed before g = PlacedFits (cells_of_all before) g

pub cells_push : (before : List Global) (g : Global) → cells_of_all (before ++ g ∷ []) ≡ cells_of_all before + g.cells
cells_push [] g = omega arith
cells_push (h ∷ before) g = omega (arith, cells_push before g)

placed_fits : (before gs : List Global) → cells_of_all before ≤ cell_limit → EachFits Placed before gs → AllByRecursion GlobalFits gs × (cells_of_all before + cells_of_all gs ≤ cell_limit)
placed_fits before [] few fits = (tt, omega arith)
placed_fits before (g ∷ gs) few fits =
    let push = cells_push before g in
    let few' : cells_of_all (before ++ g ∷ []) ≤ cell_limit = omega (arith, push, fits.0.1) in
    let rest = placed_fits (before ++ g ∷ []) gs few' fits.1 in
    ((fits.0.0, rest.0), omega (arith, push, rest.1))

fits_placed : (before gs : List Global) → AllByRecursion GlobalFits gs → cells_of_all before + cells_of_all gs ≤ cell_limit → EachFits Placed before gs
fits_placed before [] fits few = tt
fits_placed before (g ∷ gs) fits few =
    let push = cells_push before g in
    let one : cells_of_all before + g.cells ≤ cell_limit = omega arith in
    let few' : cells_of_all (before ++ g ∷ []) + cells_of_all gs ≤ cell_limit = omega (arith, push, few) in
    ((fits.0, one), fits_placed (before ++ g ∷ []) gs fits.1 few')

pub record GlobalsFit (gs : List Global) : Type 0 where
  pub few : length gs ≤ global_limit
  pub cells : cells_of_all gs ≤ cell_limit
  pub each : AllByRecursion GlobalFits gs

globals_form : IsForm globals globals_text GlobalsFit
unfolding globals
globals_form =
    fits_form (counted_form (λ before. global (cells_of_all before)) global_text Placed (λ before. global_form (cells_of_all before)) (up_to global_limit (number w16)) (to_be_bytes w16) (λ n. n ≤ global_limit) (up_to_form global_limit number16_form (λ n le. omega arith)))
    (λ gs fits. let all = placed_fits [] gs (omega arith) fits.1 in record { few = fits.0; cells = omega (arith, all.1); each = all.0 })
    (λ gs fits. let total : cells_of_all [] + cells_of_all gs ≤ cell_limit = omega (arith, fits.cells) in (fits.few, fits_placed [] gs fits.each total))

-- ---- the head

abbrev pub HeadFits : List Global × ℕ → Type 0
HeadFits h = GlobalsFit h.0 × (h.1 ≤ function_limit)

abbrev body_text : List Global × ℕ → List ℕ
body_text h = globals_text h.0 ++ byte_text h.1

body_form : IsForm body body_text HeadFits
unfolding body
body_form =
    both_form globals globals_text GlobalsFit globals_form (λ gs. up_to function_limit byte) (λ gs. byte_text) (λ gs n. n ≤ function_limit) (λ gs fits. up_to_form function_limit byte_form (λ n le. omega arith))

pub head_form : (tag : ℕ) → IsForm (head tag) (head_text tag) HeadFits
unfolding head
head_form tag = tagged_form 67 (tagged_form 70 (tagged_form 80 (tagged_form 49 (tagged_form tag body_form))))
