-- At most one part, and no fault beside it, begins at a place: so a text has one reading.
use Rattle.std.proofs.Common.{◌≡◌, ◌≢◌, ℕ, ◌<◌, ◌≤◌, Bool, true, false, cond, eqb, Option, Some, None, List, [], ◌∷◌, ◌++◌, length, get_or, take, refl, sym, ap, ◌∙◌, subst, arith, ⊎_elim, inl, inr, append_assoc}
use Rattle.std.specs.Prelude.{codes, All, option_map}
use Rattle.std.proofs.lemmas.Bool.{ltb-true}
use Rattle.std.proofs.lemmas.List.Sums.{AllPass-from_list_all}
use Rattle.std.proofs.lemmas.Bool.Decides.{nat_tests}
use Rattle.std.proofs.lemmas.List.{append_cancel_left, take_at, get_or_at}
use Rattle.std.proofs.str.Laws.{order}
use Rattle.c_syntax.specs.declared.constant.Constant.{Constant}
use Rattle.c_syntax.specs.declared.constant.IntegerType.TheVariants.{Int}
use Rattle.c_syntax.specs.declared.keyword.Keyword.{Keyword}
use Rattle.c_syntax.specs.declared.punctuator.Punctuator.{Punctuator}
use Rattle.c_syntax.specs.declared.punctuator.Punctuator.TheVariants.{Slash}
use Rattle.c_syntax.specs.declared.token.TokenKind.{TokenKind}
use Rattle.c_syntax.specs.declared.token.TokenKind.TheVariants as kinds
use Rattle.c_lexer_lexemes.specs.Bytes.{is_white, is_word_byte, begins_with_digit}
use Rattle.c_lexer_lexemes.specs.Characters.{IsCharacter}
use Rattle.c_lexer_lexemes.specs.Keywords.{keyword_text}
use Rattle.c_lexer_lexemes.specs.Lexemes.{IsWord, IsLexeme, IsLongest, IsNumber, Spells}
use Rattle.c_lexer_lexemes.specs.Lookups.{keyword_of, character_of, longest_of}
use Rattle.c_lexer_lexemes.specs.Numbers.{constant_of}
use Rattle.c_lexer_lexemes.specs.Parts.{IsLineEnd, IsGap, IsToken, IsPart}
use Rattle.c_lexer_lexemes.specs.Punctuators.{punctuator_text}
use Rattle.c_lexer.proofs.CharacterFronts.{plain_found, escape_found}
use Rattle.c_lexer_lexemes.proofs.KeywordTexts.{keyword_is, keyword_found, keyword_bytes, keyword_some, keyword_no_digit}
use Rattle.c_lexer_lexemes.proofs.Starts.{some_is, none_some, byte_of_front, length_of_front, word_first, punctuator_white, character_first, lexeme_some, not_both}

keyword_word : (k : Keyword) → IsWord (keyword_text k)
keyword_word k = record { some = ltb-true 0 (length (keyword_text k)) (keyword_some k); all = AllPass-from_list_all is_word_byte (keyword_text k) (keyword_bytes k) }

-- What spells a token is a lexeme.
pub spelled_lexeme : (k : TokenKind) (bytes : List ℕ) → Spells k bytes → IsLexeme bytes
spelled_lexeme (kinds.Name n) bytes (same, name) = IsLexeme.word name.word
spelled_lexeme (kinds.Constant c) bytes spelled = ⊎_elim (λ (number : IsNumber bytes c). IsLexeme.word number.word) (λ character. IsLexeme.character c.value character.1) spelled
spelled_lexeme (kinds.Keyword k) bytes spelled = IsLexeme.word (subst IsWord (sym spelled) (keyword_word k))
spelled_lexeme (kinds.Punctuator p) bytes spelled = IsLexeme.punctuator p spelled

-- the one token that bytes can spell
word_kind : List ℕ → Option Keyword → TokenKind
word_kind bytes None = kinds.Name bytes
word_kind bytes (Some k) = kinds.Keyword k

character_kind : ℕ × ℕ → TokenKind
character_kind x = kinds.Constant (record { value = x.0; kind = Int })

mark_kind : Punctuator × ℕ → TokenKind
mark_kind x = kinds.Punctuator x.0

of_word : List ℕ → Option TokenKind
of_word bytes = cond (begins_with_digit bytes) (option_map (λ c. kinds.Constant c) (constant_of bytes)) (Some (word_kind bytes (keyword_of bytes)))

of_other : List ℕ → Option TokenKind
of_other bytes = cond (eqb (get_or bytes 0 0) 39) (option_map character_kind (character_of (get_or bytes 1 0) (get_or bytes 2 0) (get_or bytes 3 0))) (option_map mark_kind (longest_of (get_or bytes 0 0) (get_or bytes 1 0) (get_or bytes 2 0)))

kind_of : List ℕ → Option TokenKind
kind_of bytes = cond (is_word_byte (get_or bytes 0 0)) (of_word bytes) (of_other bytes)

kind_of_word : (bytes : List ℕ) → is_word_byte (get_or bytes 0 0) ≡ true → kind_of bytes ≡ of_word bytes
unfolding kind_of
kind_of_word bytes is = ap (λ b. cond b (of_word bytes) (of_other bytes)) is

kind_of_number : (bytes : List ℕ) → IsWord bytes → begins_with_digit bytes ≡ true → kind_of bytes ≡ option_map (λ c. kinds.Constant c) (constant_of bytes)
unfolding of_word
kind_of_number bytes word digit = kind_of_word bytes (word_first bytes word) ∙ ap (λ b. cond b (option_map (λ c. kinds.Constant c) (constant_of bytes)) (Some (word_kind bytes (keyword_of bytes)))) digit

kind_of_name : (bytes : List ℕ) → IsWord bytes → begins_with_digit bytes ≡ false → kind_of bytes ≡ Some (word_kind bytes (keyword_of bytes))
unfolding of_word
kind_of_name bytes word letter = kind_of_word bytes (word_first bytes word) ∙ ap (λ b. cond b (option_map (λ c. kinds.Constant c) (constant_of bytes)) (Some (word_kind bytes (keyword_of bytes)))) letter

no_keyword_kind : (bytes : List ℕ) → ((k : Keyword) → bytes ≢ keyword_text k) → (o : Option Keyword) → keyword_of bytes ≡ o → word_kind bytes o ≡ kinds.Name bytes
unfolding word_kind
no_keyword_kind bytes none None e = refl
no_keyword_kind bytes none (Some k) e = absurd (none k (keyword_is bytes k e))

keyword_kind : (k : Keyword) → word_kind (keyword_text k) (keyword_of (keyword_text k)) ≡ kinds.Keyword k
unfolding word_kind
keyword_kind k = ap (word_kind (keyword_text k)) (keyword_found k)

mark_found : (p : Punctuator) → kind_of (punctuator_text p) ≡ Some (kinds.Punctuator p)
unfolding kind_of of_other mark_kind
mark_found Slash = refl
mark_found _ = refl

character_at : (bytes : List ℕ) (n : ℕ) → IsCharacter bytes n → kind_of bytes ≡ Some (kinds.Constant (record { value = n; kind = Int }))
unfolding kind_of of_other character_kind
character_at bytes n (IsCharacter.plain is e) = ap kind_of e ∙ ap (λ (o : Option (ℕ × ℕ)). option_map character_kind o) (plain_found n 0 is)
character_at bytes n (IsCharacter.escape c is e) = ap kind_of e ∙ ap (λ (o : Option (ℕ × ℕ)). option_map character_kind o) (escape_found c n is)

spelled_kind : (k : TokenKind) (bytes : List ℕ) → Spells k bytes → kind_of bytes ≡ Some k
spelled_kind (kinds.Name n) bytes (same, name) = kind_of_name bytes name.word name.no_digit_first ∙ ap (λ k. Some k) (no_keyword_kind bytes name.no_keyword (keyword_of bytes) refl ∙ ap kinds.Name (sym same))
spelled_kind (kinds.Constant c) bytes spelled =
    ⊎_elim
    (λ (number : IsNumber bytes c). kind_of_number bytes number.word number.digit_first ∙ ap (λ (o : Option Constant). option_map (λ c. kinds.Constant c) o) number.spelled)
    (λ character. character_at bytes c.value character.1 ∙ ap (λ t. Some (kinds.Constant (record { value = c.value; kind = t }))) (sym character.0))
    spelled
spelled_kind (kinds.Keyword k) bytes spelled = ap kind_of spelled ∙ kind_of_name (keyword_text k) (keyword_word k) (keyword_no_digit k) ∙ ap (λ k. Some k) (keyword_kind k)
spelled_kind (kinds.Punctuator p) bytes spelled = ap kind_of spelled ∙ mark_found p

pub same_kind : (k l : TokenKind) (bytes : List ℕ) → Spells k bytes → Spells l bytes → k ≡ l
same_kind k l bytes x y = some_is k l (sym (spelled_kind k bytes x) ∙ spelled_kind l bytes y)

-- a word that begins with a digit and is no constant spells nothing
pub spells_nothing : (k : TokenKind) (bytes : List ℕ) → IsWord bytes → begins_with_digit bytes ≡ true → constant_of bytes ≡ None → Spells k bytes → ⊥
spells_nothing k bytes word digit none spelled =
    none_some (sym (kind_of_number bytes word digit ∙ ap (λ (o : Option Constant). option_map (λ c. kinds.Constant c) o) none) ∙ spelled_kind k bytes spelled)

-- fronts of one text of one length are the same
pub same_fronts : (a r b s : List ℕ) → a ++ r ≡ b ++ s → length a ≡ length b → a ≡ b
same_fronts a r b s e len = sym (take_at a r (length a) refl) ∙ ap (λ (l : List ℕ). take (length a) l) e ∙ take_at b s (length a) (sym len)

-- the longest lexeme at a place is one
pub same_longest : (a r b s : List ℕ) → IsLexeme a → IsLexeme b → IsLongest a r → IsLongest b s → a ++ r ≡ b ++ s → a ≡ b
same_longest a r b s x y most_a most_b e =
    let ab = most_a b s y e in
    let ba = most_b a r x (sym e) in
    same_fronts a r b s e (omega arith)

same_token : (k l : TokenKind) (a r b s : List ℕ) → IsToken k a r → IsToken l b s → a ++ r ≡ b ++ s → (k ≡ l) × (a ≡ b)
same_token k l a r b s x y e =
    let same = same_longest a r b s (spelled_lexeme k a x.spelled) (spelled_lexeme l b y.spelled) x.longest y.longest e in
    (same_kind k l b (subst (Spells k) same x.spelled) y.spelled, same)

not_true : (t : Bool) → (t ≡ true → ⊥) → t ≡ false
not_true true h = absurd (h refl)
not_true false h = refl

white_low : (b : ℕ) → is_white b ≡ true → b ≤ 32
white_low b is = grind (arith, nat_tests)

word_high : (b : ℕ) → is_word_byte b ≡ true → 48 ≤ b
word_high b is = grind (arith, nat_tests)

word_not_white : (b : ℕ) → is_word_byte b ≡ true → is_white b ≡ false
word_not_white b is = not_true (is_white b) (λ white. absurd (let low = white_low b white in let high = word_high b is in omega arith))

pub lexeme_not_white : (bytes : List ℕ) → IsLexeme bytes → is_white (get_or bytes 0 0) ≡ false
lexeme_not_white bytes (IsLexeme.word w) = word_not_white (get_or bytes 0 0) (word_first bytes w)
lexeme_not_white bytes (IsLexeme.punctuator p e) = ap (λ (l : List ℕ). is_white (get_or l 0 0)) e ∙ punctuator_white p
lexeme_not_white bytes (IsLexeme.character n is) = ap is_white (character_first bytes n is)

first_of_front : (a r b s : List ℕ) → a ++ r ≡ b ++ s → 0 < length a → 0 < length b → get_or a 0 0 ≡ get_or b 0 0
first_of_front a r b s e some_a some_b = sym (byte_of_front (a ++ r) a r 0 refl some_a) ∙ byte_of_front (a ++ r) b s 0 e some_b

-- white space is at the place of no other part
white_first : (b : ℕ) (a r : List ℕ) → is_white b ≡ true → a ≡ b ∷ [] → (c d : List ℕ) → a ++ r ≡ c ++ d → 0 < length c → is_white (get_or c 0 0) ≡ true
white_first b a r is e c d same some =
    let front : (b ∷ []) ++ r ≡ c ++ d = ap (λ (l : List ℕ). l ++ r) (sym e) ∙ same in
    ap is_white (sym (first_of_front (b ∷ []) r c d front (omega arith) some)) ∙ is

line_at_most : (x r y s : List ℕ) → All (λ b. b ≢ 10) x → IsLineEnd s → x ++ r ≡ y ++ s → length x ≤ length y
line_at_most x r y [] none end e = let all = length_of_front (x ++ r) x r refl in let same = length_of_front (x ++ r) y [] e in omega arith
line_at_most x r y (c ∷ s) none end e =
    ⊎_elim
    (λ (longer : length y < length x). absurd (none (length y) 0 longer (sym (byte_of_front (x ++ r) x r (length y) refl longer) ∙ ap (λ (l : List ℕ). get_or l (length y) 0) e ∙ get_or_at y c s 0 (length y) refl ∙ end)))
    (λ (enough : length x ≤ length y). enough)
    (order (length y) (length x))

module _ (a r b s : List ℕ) (e : a ++ r ≡ b ++ s) where
  -- what is behind two known bytes
  behind_two : (p q : ℕ) (x y : List ℕ) → a ≡ p ∷ q ∷ x → b ≡ p ∷ q ∷ y → x ++ r ≡ y ++ s
  behind_two p q x y is_a is_b = append_cancel_left (p ∷ q ∷ []) (x ++ r) (y ++ s) (ap (λ (l : List ℕ). l ++ r) (sym is_a) ∙ e ∙ ap (λ (l : List ℕ). l ++ s) is_b)

  -- parts that begin otherwise are not at one place
  second_differs : (p q u v : ℕ) (x y : List ℕ) → a ≡ p ∷ q ∷ x → b ≡ u ∷ v ∷ y → q ≡ v
  second_differs p q u v x y is_a is_b = ap (λ (l : List ℕ). get_or l 1 0) (ap (λ (l : List ℕ). l ++ r) (sym is_a) ∙ e ∙ ap (λ (l : List ℕ). l ++ s) is_b)

  same_gap : IsGap a r → IsGap b s → a ≡ b
  same_gap (IsGap.white c is is_a) (IsGap.white d here is_b) =
      same_fronts a r b s e (ap (λ (l : List ℕ). length l) is_a ∙ sym (ap (λ (l : List ℕ). length l) is_b))
  same_gap (IsGap.white c is is_a) (IsGap.line y is_b none end) = absurd (not_both (white_first c a r is is_a b s e (subst (λ (l : List ℕ). 0 < length l) (sym is_b) (omega arith))) (ap (λ (l : List ℕ). is_white (get_or l 0 0)) is_b))
  same_gap (IsGap.white c is is_a) (IsGap.block y is_b first) = absurd (not_both (white_first c a r is is_a b s e (subst (λ (l : List ℕ). 0 < length l) (sym is_b) (omega arith))) (ap (λ (l : List ℕ). is_white (get_or l 0 0)) is_b))
  same_gap (IsGap.line x is_a none end) (IsGap.white d here is_b) = absurd (not_both (white_first d b s here is_b a r (sym e) (subst (λ (l : List ℕ). 0 < length l) (sym is_a) (omega arith))) (ap (λ (l : List ℕ). is_white (get_or l 0 0)) is_a))
  same_gap (IsGap.line x is_a none end) (IsGap.line y is_b none_y end_y) =
      let behind = behind_two 47 47 x y is_a is_b in
      let xy = line_at_most x r y s none end_y behind in
      let yx = line_at_most y s x r none_y end (sym behind) in
      is_a ∙ ap (λ (l : List ℕ). 47 ∷ 47 ∷ l) (same_fronts x r y s behind (omega arith)) ∙ sym is_b
  same_gap (IsGap.line x is_a none end) (IsGap.block y is_b first) = absurd (let differ = second_differs 47 47 47 42 x (y ++ codes "*/") is_a is_b in omega arith)
  same_gap (IsGap.block x is_a first) (IsGap.white d here is_b) = absurd (not_both (white_first d b s here is_b a r (sym e) (subst (λ (l : List ℕ). 0 < length l) (sym is_a) (omega arith))) (ap (λ (l : List ℕ). is_white (get_or l 0 0)) is_a))
  same_gap (IsGap.block x is_a first) (IsGap.line y is_b none end) = absurd (let differ = second_differs 47 42 47 47 (x ++ codes "*/") y is_a is_b in omega arith)
  same_gap (IsGap.block x is_a first) (IsGap.block y is_b first_y) =
      let behind = behind_two 47 42 (x ++ codes "*/") (y ++ codes "*/") is_a is_b in
      let same : x ++ (codes "*/" ++ r) ≡ y ++ (codes "*/" ++ s) = sym (append_assoc x (codes "*/") r) ∙ behind ∙ append_assoc y (codes "*/") s in
      let xy = first y s same in
      let yx = first_y x r (sym same) in
      is_a ∙ ap (λ (l : List ℕ). 47 ∷ 42 ∷ (l ++ codes "*/")) (same_fronts x (codes "*/" ++ r) y (codes "*/" ++ s) same (omega arith)) ∙ sym is_b

  no_gap_and_token : (k : TokenKind) → IsGap a r → IsToken k b s → ⊥
  no_gap_and_token k (IsGap.white c is is_a) token =
      let lexeme = spelled_lexeme k b token.spelled in
      not_both (white_first c a r is is_a b s e (lexeme_some b lexeme)) (lexeme_not_white b lexeme)
  no_gap_and_token k (IsGap.line x is_a none end) token = token.no_comment (x ++ r, inl (sym e ∙ ap (λ (l : List ℕ). l ++ r) is_a))
  no_gap_and_token k (IsGap.block x is_a first) token = token.no_comment ((x ++ codes "*/") ++ r, inr (sym e ∙ ap (λ (l : List ℕ). l ++ r) is_a))

-- the part at a place is one
pub same_part : (k l : Option TokenKind) (a r b s : List ℕ) → IsPart k a r → IsPart l b s → a ++ r ≡ b ++ s → (k ≡ l) × (a ≡ b)
same_part None None a r b s x y e = (refl, same_gap a r b s e x y)
same_part None (Some l) a r b s x y e = absurd (no_gap_and_token a r b s e l x y)
same_part (Some k) None a r b s x y e = absurd (no_gap_and_token b s a r (sym e) k y x)
same_part (Some k) (Some l) a r b s x y e = let same = same_token k l a r b s x y e in (ap (λ k. Some k) same.0, same.1)

gap_some : (bytes rest : List ℕ) → IsGap bytes rest → 0 < length bytes
gap_some bytes rest (IsGap.white b is e) = subst (λ (l : List ℕ). 0 < length l) (sym e) (omega arith)
gap_some bytes rest (IsGap.line body e none end) = subst (λ (l : List ℕ). 0 < length l) (sym e) (omega arith)
gap_some bytes rest (IsGap.block body e first) = subst (λ (l : List ℕ). 0 < length l) (sym e) (omega arith)

pub part_some : (k : Option TokenKind) (bytes rest : List ℕ) → IsPart k bytes rest → 0 < length bytes
part_some None bytes rest gap = gap_some bytes rest gap
part_some (Some k) bytes rest token = lexeme_some bytes (spelled_lexeme k bytes token.spelled)
