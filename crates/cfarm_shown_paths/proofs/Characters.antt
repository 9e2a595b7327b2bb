-- Characters that are shown.
use Rattle.std.proofs.Common.{◌≡◌, ℕ, zero, suc, ◌/◌, ◌%◌, ◌<◌, Bool, true, false, cond, not, ◌&&◌, nat_lt, nat_le, List, [], ◌∷◌, ◌++◌, length, IsUtf8, inl, inr, refl, sym, ap, ap₂, ◌∙◌, subst, arith, append_assoc, append-nil, All, chars, codes, flat_map, encode_utf8, encode_utf8_all}
use Rattle.std.specs.Char.{digit_char, is_control}
use Rattle.std.proofs.lemmas.Bool.{and_parts, cases_eq, leb-true, ltb-true, not-true, or_cases}
use Rattle.std.proofs.lemmas.Str.{chars-encodes, chars_past_char, encode_ascii, encodes-append, encodes-chars, scalars-chars}
use lib.Utf8.{scalar, scalars, low_scalar}
use Rattle.cfarm_shown_paths.specs.Shown.{IsPlain, escaped, shown_char, shown_path}

-- the code of a control character is below 160
control_low : (c : ℕ) → is_control c ≡ true → c < 160
control_low c control = elim (or_cases (nat_le 0 c && nat_le c 31) (nat_le 127 c && nat_le c 159) control) [
  | inl low ↦ let most = leb-true c 31 (and_parts (nat_le 0 c) (nat_le c 31) low).1 in omega (arith, most)
  | inr high ↦ let most = leb-true c 159 (and_parts (nat_le 127 c) (nat_le c 159) high).1 in omega (arith, most)
]

-- the characters of a code: none is a control character, and each is one of ASCII
abbrev are_plain : List ℕ → Bool
are_plain [] = true
are_plain (x ∷ xs) = nat_lt x 128 && (not (is_control x) && are_plain xs)

abbrev code_chars : ℕ → List ℕ
code_chars c = 92 ∷ 120 ∷ digit_char (c / 16 % 16) ∷ digit_char (c % 16) ∷ []

abbrev plain_below : ℕ → Bool
plain_below zero = true
plain_below (suc n) = are_plain (code_chars n) && plain_below n

plain_at : (n : ℕ) → plain_below n ≡ true → (c : ℕ) → c < n → are_plain (code_chars c) ≡ true
plain_at zero e c h = absurd (omega (arith, h))
plain_at (suc n) e c h =
    let p = and_parts (are_plain (code_chars n)) (plain_below n) e in
    elim (cases_eq c n) [
      | inl same ↦ ap (λ (k : ℕ). are_plain (code_chars k)) same ∙ p.0
      | inr other ↦ plain_at n p.1 c (omega (arith, h, other))
    ]

all_plain : plain_below 160 ≡ true
all_plain = refl

code_plain : (c : ℕ) → is_control c ≡ true → are_plain (code_chars c) ≡ true
code_plain c control = plain_at 160 all_plain c (control_low c control)

head_small : (x : ℕ) (xs : List ℕ) → are_plain (x ∷ xs) ≡ true → x < 128
head_small x xs e = ltb-true x 128 (and_parts (nat_lt x 128) (not (is_control x) && are_plain xs) e).0

head_plain : (x : ℕ) (xs : List ℕ) → are_plain (x ∷ xs) ≡ true → not (is_control x) ≡ true
head_plain x xs e = (and_parts (not (is_control x)) (are_plain xs) (and_parts (nat_lt x 128) (not (is_control x) && are_plain xs) e).1).0

tail_plain : (x : ℕ) (xs : List ℕ) → are_plain (x ∷ xs) ≡ true → are_plain xs ≡ true
tail_plain x xs e = (and_parts (not (is_control x)) (are_plain xs) (and_parts (nat_lt x 128) (not (is_control x) && are_plain xs) e).1).1

scalars_plain : (xs : List ℕ) → are_plain xs ≡ true → scalars xs ≡ true
scalars_plain [] e = refl
scalars_plain (x ∷ xs) e =
    let small = head_small x xs e in
    ap₂ (λ (a b : Bool). a && b) (low_scalar x (omega (arith, small))) (scalars_plain xs (tail_plain x xs e))

-- the characters that are shown of one
abbrev shown_chars : ℕ → List ℕ
shown_chars c = cond (is_control c) (code_chars c) (c ∷ [])

encoded_code : (c : ℕ) → encode_utf8_all (code_chars c) ≡ escaped c
encoded_code c =
    let high = encode_utf8 (digit_char (c / 16 % 16)) in
    let low = encode_utf8 (digit_char (c % 16)) in
    ap₂ (λ (a b : List ℕ). a ++ (b ++ (high ++ (low ++ [])))) (encode_ascii 92 (omega arith)) (encode_ascii 120 (omega arith))
    ∙ ap (λ (l : List ℕ). 92 ∷ 120 ∷ (high ++ l)) (append-nil low)

encoded_by : (c : ℕ) (is : Bool) → is_control c ≡ is → encode_utf8_all (cond is (code_chars c) (c ∷ [])) ≡ cond is (escaped c) (encode_utf8 c)
encoded_by c true e = encoded_code c
encoded_by c false e = append-nil (encode_utf8 c)

encoded : (c : ℕ) → encode_utf8_all (shown_chars c) ≡ shown_char c
encoded c = encoded_by c (is_control c) refl

all_encoded : (cs : List ℕ) → encode_utf8_all (flat_map shown_chars cs) ≡ flat_map shown_char cs
all_encoded [] = refl
all_encoded (c ∷ cs) =
    encodes-append (shown_chars c) (flat_map shown_chars cs) ∙ ap₂ (λ (a b : List ℕ). a ++ b) (encoded c) (all_encoded cs)

-- of a text, character by character
pub shown_next : (text rest : List ℕ) (c : ℕ) → IsUtf8 text → text ≡ encode_utf8 c ++ rest → shown_path text ≡ shown_char c ++ shown_path rest
shown_next text rest c utf8 is = ap (λ (l : List ℕ). flat_map shown_char l) (chars_past_char text rest c utf8 is)

pub shown_end : (text : List ℕ) → text ≡ [] → shown_path text ≡ []
shown_end text none = ap (λ (l : List ℕ). flat_map shown_char l) (ap chars none ∙ chars-encodes [] refl)

-- a text of plain characters is shown as it is
stays : (cs : List ℕ) → All (λ c. is_control c ≡ false) cs → flat_map shown_char cs ≡ encode_utf8_all cs
stays [] plain = refl
stays (c ∷ cs) plain =
    ap₂ (λ (a b : List ℕ). a ++ b) (ap (λ (is : Bool). cond is (escaped c) (encode_utf8 c)) (plain 0 0 (omega arith)))
    (stays cs (λ k d low. plain (suc k) d (omega (arith, low))))

pub plain_shown : (text : List ℕ) → IsUtf8 text → IsPlain text → shown_path text ≡ text
plain_shown text utf8 plain = stays (chars text) plain ∙ encodes-chars text utf8

-- what is shown is plain, and of characters
abbrev are_all_plain : List ℕ → Bool
are_all_plain [] = true
are_all_plain (x ∷ xs) = not (is_control x) && are_all_plain xs

plain_at_each : (xs : List ℕ) → are_all_plain xs ≡ true → All (λ c. is_control c ≡ false) xs
plain_at_each [] e k d low = absurd (omega (arith, low))
plain_at_each (x ∷ xs) e zero d low = not-true (is_control x) (and_parts (not (is_control x)) (are_all_plain xs) e).0
plain_at_each (x ∷ xs) e (suc k) d low = plain_at_each xs (and_parts (not (is_control x)) (are_all_plain xs) e).1 k d (omega (arith, low))

is_all_plain : (xs : List ℕ) → are_plain xs ≡ true → are_all_plain xs ≡ true
is_all_plain [] e = refl
is_all_plain (x ∷ xs) e = ap₂ (λ (a b : Bool). a && b) (head_plain x xs e) (is_all_plain xs (tail_plain x xs e))

plain-append : (xs ys : List ℕ) → are_all_plain xs ≡ true → are_all_plain ys ≡ true → are_all_plain (xs ++ ys) ≡ true
plain-append [] ys e f = f
plain-append (x ∷ xs) ys e f =
    let p = and_parts (not (is_control x)) (are_all_plain xs) e in
    ap₂ (λ (a b : Bool). a && b) p.0 (plain-append xs ys p.1 f)

scalars-append : (xs ys : List ℕ) → scalars xs ≡ true → scalars ys ≡ true → scalars (xs ++ ys) ≡ true
scalars-append [] ys e f = f
scalars-append (x ∷ xs) ys e f =
    let p = and_parts (scalar x) (scalars xs) e in
    ap₂ (λ (a b : Bool). a && b) p.0 (scalars-append xs ys p.1 f)

one_plain : (c : ℕ) (is : Bool) → is_control c ≡ is → are_all_plain (cond is (code_chars c) (c ∷ [])) ≡ true
one_plain c true e = is_all_plain (code_chars c) (code_plain c e)
one_plain c false e = ap (λ (b : Bool). not b && true) e

one_scalar : (c : ℕ) (is : Bool) → is_control c ≡ is → scalar c ≡ true → scalars (cond is (code_chars c) (c ∷ [])) ≡ true
one_scalar c true e ok = scalars_plain (code_chars c) (code_plain c e)
one_scalar c false e ok = ap (λ (b : Bool). b && true) ok

all_shown_plain : (cs : List ℕ) → are_all_plain (flat_map shown_chars cs) ≡ true
all_shown_plain [] = refl
all_shown_plain (c ∷ cs) = plain-append (shown_chars c) (flat_map shown_chars cs) (one_plain c (is_control c) refl) (all_shown_plain cs)

all_shown_scalars : (cs : List ℕ) → scalars cs ≡ true → scalars (flat_map shown_chars cs) ≡ true
all_shown_scalars [] e = refl
all_shown_scalars (c ∷ cs) e =
    let p = and_parts (scalar c) (scalars cs) e in
    scalars-append (shown_chars c) (flat_map shown_chars cs) (one_scalar c (is_control c) refl p.0) (all_shown_scalars cs p.1)

pub shown_plain : (text : List ℕ) → IsUtf8 text → IsPlain (shown_path text)
shown_plain text utf8 =
    let cs = flat_map shown_chars (chars text) in
    let is : chars (shown_path text) ≡ cs =
    ap chars (sym (all_encoded (chars text))) ∙ chars-encodes cs (all_shown_scalars (chars text) (scalars-chars text utf8)) in
    subst (λ (l : List ℕ). All (λ c. is_control c ≡ false) l) (sym is) (plain_at_each cs (all_shown_plain (chars text)))
