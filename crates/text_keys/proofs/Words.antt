-- No two words have one text.
use Rattle.std.proofs.Common.{◌≡◌, ℕ, ◌+◌, ◌%◌, ◌<◌, ◌^◌, Bool, true, false, List, [], ◌∷◌, ◌++◌, if◌then◌else◌, ◌&&◌, decimal, refl, sym, ap, ◌∙◌, arith}
use Rattle.std.specs.List.{list_all}
use Rattle.std.specs.Prelude.{nat_lt}
use Rattle.std.proofs.lemmas.Bool.{and_parts, false≢true, lt-ltb, ltb-true}
use Rattle.std.proofs.lemmas.Fmt.{decimal_by_steps, decimal_injective}
use Rattle.text_keys.specs.declared.word.Letter.{Letter}
use Rattle.text_keys.specs.declared.word.Letter.TheVariants.{Register, Slot, Global, Function, Variable}
use Rattle.text_keys.specs.declared.word.Word.{Word}
use Rattle.text_keys.specs.declared.word.Word.TheVariants.{Lettered, Number, Named}
use Rattle.text_keys.specs.Words.{letter_byte, word_text, is_printed, WordFits}
use Rattle.text_keys.proofs.Clear.{heads, tails}
use Rattle.text_keys.proofs.Keys.{key_of, key_again, is_digit, begins_with_number, kind_of, key_kind, key_printed}

-- digits, and some
abbrev AreDigits : List ℕ → Type 0
AreDigits ds = (begins_with_number ds ≡ true) × (list_all is_digit ds ≡ true)

pub and_true : (a b : Bool) → a ≡ true → b ≡ true → (a && b) ≡ true
and_true true true e f = refl
and_true true false e f = f
and_true false b e f = e

digit_is : (n : ℕ) → n < 10 → is_digit (48 + n) ≡ true
digit_is n h = and_true _ _ (lt-ltb 47 (48 + n) (omega arith)) (lt-ltb (48 + n) 58 (omega arith))

one_more : (ds : List ℕ) (d : ℕ) → AreDigits ds → is_digit d ≡ true → AreDigits (ds ++ d ∷ [])
one_more [] d digits e = absurd (false≢true digits.0)
one_more (x ∷ []) d digits e = (digits.0, and_true (is_digit x) _ digits.0 (and_true (is_digit d) true e refl))
one_more (x ∷ y ∷ ds) d digits e =
    let p = and_parts (is_digit x) (list_all is_digit (y ∷ ds)) digits.1 in
    (digits.0, and_true (is_digit x) _ digits.0 (one_more (y ∷ ds) d ((and_parts (is_digit y) (list_all is_digit ds) p.1).0, p.1) e).1)

pub are_digits : (n : ℕ) → n < 2 ^ 64 → AreDigits (decimal n)
are_digits = decimal_by_steps (λ n ds. AreDigits ds) (λ n h. (digit_is n h, and_true (is_digit (48 + n)) true (digit_is n h) refl)) (λ n ds h digits. one_more ds (48 + n % 10) digits (digit_is (n % 10) (omega arith)))

digit_printed : (b : ℕ) → is_digit b ≡ true → is_printed b ≡ true
digit_printed b e = lt-ltb 32 b (let low = ltb-true 47 b (and_parts (nat_lt 47 b) (nat_lt b 58) e).0 in omega arith)

digits_printed : (ds : List ℕ) → list_all is_digit ds ≡ true → list_all is_printed ds ≡ true
digits_printed [] e = refl
digits_printed (d ∷ ds) e = let p = and_parts (is_digit d) (list_all is_digit ds) e in and_true (is_printed d) _ (digit_printed d p.0) (digits_printed ds p.1)

pub decimal_printed : (n : ℕ) → n < 2 ^ 64 → list_all is_printed (decimal n) ≡ true
decimal_printed n h = digits_printed (decimal n) (are_digits n h).1

letter_printed : (l : Letter) → is_printed (letter_byte l) ≡ true
letter_printed Register = refl
letter_printed Slot = refl
letter_printed Global = refl
letter_printed Function = refl
letter_printed Variable = refl

pub word_printed : (w : Word) → WordFits w → list_all is_printed (word_text w) ≡ true
word_printed (Lettered l n) h = and_true (is_printed (letter_byte l)) _ (letter_printed l) (decimal_printed n h)
word_printed (Number n) h = decimal_printed n h
word_printed (Named key) h = key_printed key

-- ---- told apart

number_kind : (ds : List ℕ) → begins_with_number ds ≡ true → kind_of ds ≡ 0
number_kind [] e = absurd (false≢true e)
number_kind (d ∷ ds) e = ap (λ b. if b then 0 else (if begins_with_number ds then 1 else 2)) e

letter_kind : (l : Letter) (ds : List ℕ) → begins_with_number ds ≡ true → kind_of (letter_byte l ∷ ds) ≡ 1
letter_kind Register ds e = ap (λ b. if b then 1 else 2) e
letter_kind Slot ds e = ap (λ b. if b then 1 else 2) e
letter_kind Global ds e = ap (λ b. if b then 1 else 2) e
letter_kind Function ds e = ap (λ b. if b then 1 else 2) e
letter_kind Variable ds e = ap (λ b. if b then 1 else 2) e

abbrev kind : Word → ℕ
kind (Lettered l n) = 1
kind (Number n) = 0
kind (Named key) = 2

word_kind : (w : Word) → WordFits w → kind_of (word_text w) ≡ kind w
word_kind (Lettered l n) h = letter_kind l (decimal n) (are_digits n h).0
word_kind (Number n) h = number_kind (decimal n) (are_digits n h).0
word_kind (Named key) h = key_kind key

same_kind : (v w : Word) → WordFits v → WordFits w → word_text v ≡ word_text w → kind v ≡ kind w
same_kind v w fits fits' e = sym (word_kind v fits) ∙ ap kind_of e ∙ word_kind w fits'

abbrev letter_of : ℕ → Letter
letter_of b = if nat_lt b 103 then Function else (if nat_lt b 104 then Global else (if nat_lt b 115 then Register else (if nat_lt b 116 then Slot else Variable)))

letter_again : (l : Letter) → letter_of (letter_byte l) ≡ l
letter_again Register = refl
letter_again Slot = refl
letter_again Global = refl
letter_again Function = refl
letter_again Variable = refl

letters : (l m : Letter) → letter_byte l ≡ letter_byte m → l ≡ m
letters l m e = sym (letter_again l) ∙ ap letter_of e ∙ letter_again m

pub word_tells : (v w : Word) → WordFits v → WordFits w → word_text v ≡ word_text w → v ≡ w
word_tells (Lettered l m) (Lettered k n) fits fits' e =
    let same = heads (letter_byte l) (letter_byte k) (decimal m) (decimal n) e in
    let number = decimal_injective m n fits fits' (tails (letter_byte l) (letter_byte k) (decimal m) (decimal n) e) in
    λ i. Lettered (letters l k same i) (number i)
word_tells (Number m) (Number n) fits fits' e = ap (λ n. Number n) (decimal_injective m n fits fits' e)
word_tells (Named j) (Named k) fits fits' e = ap (λ k. Named k) (sym (key_again j) ∙ ap key_of e ∙ key_again k)
word_tells (Lettered l m) (Number n) fits fits' e = absurd (let k : 1 ≡ 0 = same_kind (Lettered l m) (Number n) fits fits' e in omega arith)
word_tells (Lettered l m) (Named k) fits fits' e = absurd (let k : 1 ≡ 2 = same_kind (Lettered l m) (Named k) fits fits' e in omega arith)
word_tells (Number m) (Lettered l n) fits fits' e = absurd (let k : 0 ≡ 1 = same_kind (Number m) (Lettered l n) fits fits' e in omega arith)
word_tells (Number m) (Named k) fits fits' e = absurd (let k : 0 ≡ 2 = same_kind (Number m) (Named k) fits fits' e in omega arith)
word_tells (Named k) (Lettered l n) fits fits' e = absurd (let k : 2 ≡ 1 = same_kind (Named k) (Lettered l n) fits fits' e in omega arith)
word_tells (Named k) (Number n) fits fits' e = absurd (let k : 2 ≡ 0 = same_kind (Named k) (Number n) fits fits' e in omega arith)
