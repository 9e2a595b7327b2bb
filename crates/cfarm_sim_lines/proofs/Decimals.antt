-- Numbers in a line, and where the blanks between them stand.
use Rattle.std.proofs.Common.{◌≡◌, ℕ, zero, suc, ◌+◌, ◌%◌, ◌<◌, ◌^◌, List, [], ◌∷◌, ◌++◌, length, get_or, take, false, refl, sym, ap, ◌∙◌, arith, inl, inr}
use Rattle.std.specs.Fmt.{decimal}
use Rattle.std.specs.List.{before_first, position_or_len}
use Rattle.std.specs.Str.{IsUtf8}
use Rattle.std.proofs.Math.Seq.{take-append_seam}
use Rattle.std.proofs.lemmas.Bool.Decides.{eqb_tells}
use Rattle.std.proofs.lemmas.Fmt.{decimal_by_steps, IsAscii-decimal}
use Rattle.std.proofs.lemmas.List.{append_cancel_left}
use Rattle.std.proofs.lemmas.List.Sums.{position_or_len_is}
use Rattle.std.proofs.lemmas.Str.{IsUtf8-from_ascii}
use Rattle.cfarm_sim_lines.specs.Texts.{is_byte}

pub decimal_is_text : (n : ℕ) → n < 2 ^ 64 → IsUtf8 (decimal n)
decimal_is_text n h = IsUtf8-from_ascii (decimal n) (IsAscii-decimal n h)

pub take_all : (xs : List ℕ) → take (length xs) xs ≡ xs
take_all [] = refl
take_all (x ∷ xs) = ap (λ ys. x ∷ ys) (take_all xs)

-- none of the bytes is a blank
abbrev HasNone : List ℕ → Type 0
HasNone ds = (k : ℕ) → k < length ds → is_byte 32 (get_or ds k 0) ≡ false

digit_is_none : (n : ℕ) → is_byte 32 (48 + n) ≡ false
digit_is_none n = elim (eqb_tells (48 + n) 32) as (λ _. is_byte 32 (48 + n) ≡ false) [
  | inl same ↦ absurd (let e = same.1 in omega arith)
  | inr other ↦ other.0
]

one_more : (ds : List ℕ) (d : ℕ) → HasNone ds → is_byte 32 d ≡ false → HasNone (ds ++ d ∷ [])
one_more [] d none e zero h = e
one_more [] d none e (suc k) h = absurd (omega arith)
one_more (x ∷ xs) d none e zero h = none 0 (omega arith)
one_more (x ∷ xs) d none e (suc k) h = one_more xs d (λ j below. none (suc j) (omega arith)) e k (omega arith)

none_alone : (d : ℕ) → is_byte 32 d ≡ false → HasNone (d ∷ [])
none_alone d e zero h = e
none_alone d e (suc k) h = absurd (omega arith)

no_blank : (n : ℕ) → n < 2 ^ 64 → HasNone (decimal n)
no_blank = decimal_by_steps (λ n ds. HasNone ds) (λ n h. none_alone (48 + n) (digit_is_none n)) (λ n ds h none. one_more ds (48 + n % 10) none (digit_is_none (n % 10)))

get_left : (xs ys : List ℕ) (k : ℕ) → k < length xs → get_or (xs ++ ys) k 0 ≡ get_or xs k 0
get_left [] ys k h = absurd (omega arith)
get_left (x ∷ xs) ys zero h = refl
get_left (x ∷ xs) ys (suc k) h = get_left xs ys k (omega arith)

get_seam : (xs ys : List ℕ) (y : ℕ) → get_or (xs ++ y ∷ ys) (length xs) 0 ≡ y
get_seam [] ys y = refl
get_seam (x ∷ xs) ys y = get_seam xs ys y

longer : (xs ys : List ℕ) (y : ℕ) → length xs < length (xs ++ y ∷ ys)
longer [] ys y = omega arith
longer (x ∷ xs) ys y = let h = longer xs ys y in omega arith

pub before_blank : (n : ℕ) (rest : List ℕ) → n < 2 ^ 64 → before_first (is_byte 32) (decimal n ++ 32 ∷ rest) ≡ decimal n
before_blank n rest h =
    let ds = decimal n in
    let more = longer ds rest 32 in
    let e : position_or_len (is_byte 32) (ds ++ 32 ∷ rest) ≡ length ds =
    position_or_len_is (is_byte 32) (ds ++ 32 ∷ rest) (length ds) 0 (omega arith)
    (λ k below. ap (is_byte 32) (get_left ds (32 ∷ rest) k below) ∙ no_blank n h k below)
    (λ _. ap (is_byte 32) (get_seam ds rest 32)) in
    ap (λ k. take k (ds ++ 32 ∷ rest)) e ∙ take-append_seam ds (32 ∷ rest)

-- where two numbers stand with a blank between them, a part before the first blank is the first number
pub first_is : (i k : ℕ) (words first : List ℕ) → i < 2 ^ 64 → words ≡ decimal i ++ 32 ∷ decimal k → first ≡ before_first (is_byte 32) words → first ≡ decimal i
first_is i k words first h e f = f ∙ ap (before_first (is_byte 32)) e ∙ before_blank i (decimal k) h

pub second_is : (i k : ℕ) (words first second : List ℕ) → i < 2 ^ 64 → words ≡ decimal i ++ 32 ∷ decimal k → first ≡ before_first (is_byte 32) words → words ≡ first ++ 32 ∷ second → second ≡ decimal k
second_is i k words first second h e f s =
    let same = first_is i k words first h e f in
    let all : decimal i ++ 32 ∷ second ≡ decimal i ++ 32 ∷ decimal k = ap (λ l. l ++ 32 ∷ second) (sym same) ∙ sym s ∙ e in
    tail_same (append_cancel_left (decimal i) (32 ∷ second) (32 ∷ decimal k) all)
  where
    tail : List ℕ → List ℕ
    tail [] = []
    tail (x ∷ xs) = xs

    tail_same : 32 ∷ second ≡ 32 ∷ decimal k → second ≡ decimal k
    tail_same p = ap tail p

-- there is a blank
pub has_blank : (i k : ℕ) (words : List ℕ) → i < 2 ^ 64 → words ≡ decimal i ++ 32 ∷ decimal k → before_first (is_byte 32) words ≡ words → ⊥
has_blank i k words h e none =
    let same = ap length (sym (first_is i k words (before_first (is_byte 32) words) h e refl) ∙ none ∙ e) in
    let more = longer (decimal i) (decimal k) 32 in
    absurd (omega arith)
