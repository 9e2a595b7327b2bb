-- The front of a text: its first bytes, and what they begin.
use Rattle.std.proofs.Common.{◌≡◌, ◌≢◌, ℕ, ◌+◌, ◌<◌, ◌≤◌, Bool, true, false, eqb, ltb, Option, Some, None, List, [], ◌∷◌, ◌++◌, length, get_or, take, drop, refl, sym, ap, ◌∙◌, subst, arith, ⊎_elim, length-append, take-append-drop, length-take-le}
use Rattle.std.proofs.lemmas.Bool.{both_ways, eqb-false, ltb-true}
use Rattle.std.proofs.lemmas.List.{get_or_append_left, take_at}
use Rattle.c_syntax.specs.declared.punctuator.Punctuator.{Punctuator}
use Rattle.c_syntax.specs.declared.punctuator.Punctuator.TheVariants.{Slash}
use Rattle.c_lexer_lexemes.specs.Bytes.{is_white, is_word_byte}
use Rattle.c_lexer_lexemes.specs.Characters.{IsCharacter}
use Rattle.c_lexer_lexemes.specs.Lexemes.{IsWord, IsLexeme, IsLongest}
use Rattle.c_lexer_lexemes.specs.Parts.{BeginsComment}
use Rattle.c_lexer_lexemes.specs.Punctuators.{punctuator_text}

pub some_is : {A : Type 0} (x y : A) → Some x ≡ Some y → x ≡ y
some_is x y e = cc

pub none_some : {A : Type 0} {x : A} → None ≡ Some x → ⊥
none_some e = absurd cc

-- what is found, and how long it is
abbrev pub found : {A : Type 0} → A → ℕ → Option (A × ℕ)
found x n = Some (x, n)

pub found_is : {A : Type 0} (x y : A) (m n : ℕ) → found x m ≡ found y n → (x ≡ y) × (m ≡ n)
found_is {A} x y m n e =
    let p : A × ℕ = (x, m) in
    let q : A × ℕ = (y, n) in
    let same : p ≡ q = some_is p q e in
    (ap (λ (r : A × ℕ). r.0) same, ap (λ (r : A × ℕ). r.1) same)

-- the bytes of a front are the text's
pub byte_of_front : (text front behind : List ℕ) (k : ℕ) → text ≡ front ++ behind → k < length front → get_or text k 0 ≡ get_or front k 0
byte_of_front text front behind k e h = ap (λ (l : List ℕ). get_or l k 0) e ∙ get_or_append_left front behind 0 k h

pub length_of_front : (text front behind : List ℕ) → text ≡ front ++ behind → length text ≡ length front + length behind
length_of_front text front behind e = ap (λ (l : List ℕ). length l) e ∙ length-append front behind

pub word_first : (bytes : List ℕ) → IsWord bytes → is_word_byte (get_or bytes 0 0) ≡ true
word_first bytes w = w.all 0 0 w.some

pub punctuator_first : (p : Punctuator) → is_word_byte (get_or (punctuator_text p) 0 0) ≡ false
punctuator_first Slash = refl
punctuator_first _ = refl

pub punctuator_white : (p : Punctuator) → is_white (get_or (punctuator_text p) 0 0) ≡ false
punctuator_white Slash = refl
punctuator_white _ = refl

punctuator_quote_test : (p : Punctuator) → eqb (get_or (punctuator_text p) 0 0) 39 ≡ false
punctuator_quote_test Slash = refl
punctuator_quote_test _ = refl

pub punctuator_quote : (p : Punctuator) → get_or (punctuator_text p) 0 0 ≢ 39
punctuator_quote p = eqb-false (get_or (punctuator_text p) 0 0) 39 (punctuator_quote_test p)

punctuator_some_test : (p : Punctuator) → ltb 0 (length (punctuator_text p)) ≡ true
punctuator_some_test Slash = refl
punctuator_some_test _ = refl

pub punctuator_some : (p : Punctuator) → 0 < length (punctuator_text p)
punctuator_some p = ltb-true 0 (length (punctuator_text p)) (punctuator_some_test p)

pub character_first : (bytes : List ℕ) (n : ℕ) → IsCharacter bytes n → get_or bytes 0 0 ≡ 39
character_first bytes n (IsCharacter.plain is e) = ap (λ (l : List ℕ). get_or l 0 0) e
character_first bytes n (IsCharacter.escape c is e) = ap (λ (l : List ℕ). get_or l 0 0) e

pub character_some : (bytes : List ℕ) (n : ℕ) → IsCharacter bytes n → 0 < length bytes
character_some bytes n (IsCharacter.plain is e) = omega (arith, ap (λ (l : List ℕ). length l) e)
character_some bytes n (IsCharacter.escape c is e) = omega (arith, ap (λ (l : List ℕ). length l) e)

pub lexeme_some : (bytes : List ℕ) → IsLexeme bytes → 0 < length bytes
lexeme_some bytes (IsLexeme.word w) = w.some
lexeme_some bytes (IsLexeme.punctuator p e) = subst (λ (l : List ℕ). 0 < length l) (sym e) (punctuator_some p)
lexeme_some bytes (IsLexeme.character n c) = character_some bytes n c

-- a comment begins with a slash
pub comment_first : (text : List ℕ) → BeginsComment text → get_or text 0 0 ≡ 47
comment_first text (rest, c) = ⊎_elim (λ e. ap (λ (l : List ℕ). get_or l 0 0) e) (λ e. ap (λ (l : List ℕ). get_or l 0 0) e) c

pub not_both : {b : Bool} → b ≡ true → b ≡ false → ⊥
not_both {b} t f = both_ways b f t

pub first_byte : (text : List ℕ) → 0 < length text → text ≡ get_or text 0 0 ∷ drop 1 text
first_byte [] h = absurd (omega arith)
first_byte (b ∷ text) h = refl

pub front_taken : (text bytes rest : List ℕ) (len : ℕ) → length bytes ≡ len → text ≡ bytes ++ rest → take len text ≡ bytes
front_taken text bytes rest len is e = ap (λ (l : List ℕ). take len l) e ∙ take_at bytes rest len is

-- Bytes that are not 0 stand in the text.
pub front_one : (text : List ℕ) → get_or text 0 0 ≢ 0 → text ≡ get_or text 0 0 ∷ drop 1 text
front_one [] h = absurd (h refl)
front_one (a ∷ text) h = refl

pub front_two : (text : List ℕ) → get_or text 0 0 ≢ 0 → get_or text 1 0 ≢ 0 → text ≡ get_or text 0 0 ∷ get_or text 1 0 ∷ drop 2 text
front_two [] h k = absurd (h refl)
front_two (a ∷ []) h k = absurd (k refl)
front_two (a ∷ b ∷ text) h k = refl

pub front_three : (text : List ℕ) → get_or text 0 0 ≢ 0 → get_or text 1 0 ≢ 0 → get_or text 2 0 ≢ 0 → text ≡ get_or text 0 0 ∷ get_or text 1 0 ∷ get_or text 2 0 ∷ drop 3 text
front_three [] h k m = absurd (h refl)
front_three (a ∷ []) h k m = absurd (k refl)
front_three (a ∷ b ∷ []) h k m = absurd (m refl)
front_three (a ∷ b ∷ c ∷ text) h k m = refl

pub front_four : (text : List ℕ) → get_or text 0 0 ≢ 0 → get_or text 1 0 ≢ 0 → get_or text 2 0 ≢ 0 → get_or text 3 0 ≢ 0 → text ≡ get_or text 0 0 ∷ get_or text 1 0 ∷ get_or text 2 0 ∷ get_or text 3 0 ∷ drop 4 text
front_four [] h k m n = absurd (h refl)
front_four (a ∷ []) h k m n = absurd (k refl)
front_four (a ∷ b ∷ []) h k m n = absurd (m refl)
front_four (a ∷ b ∷ c ∷ []) h k m n = absurd (n refl)
front_four (a ∷ b ∷ c ∷ d ∷ text) h k m n = refl

-- the first bytes of a text are its longest lexeme where no lexeme that it begins with is longer
pub longest_front : (text : List ℕ) (n : ℕ) → n ≤ length text → ((other behind : List ℕ) → IsLexeme other → text ≡ other ++ behind → length other ≤ n) → IsLongest (take n text) (drop n text)
longest_front text n fits most other behind lexeme e =
    let len : length (take n text) ≡ n = length-take-le n text fits in
    let here : length other ≤ n = most other behind lexeme (sym (take-append-drop n text) ∙ e) in
    omega arith
