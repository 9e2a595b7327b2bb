-- The punctuator at the front of a text.
use Rattle.std.proofs.Common.{◌≡◌, ◌≢◌, ℕ, ◌<◌, ◌≤◌, Bool, true, false, cond, eqb, not, ◌&&◌, Option, Some, None, List, [], ◌∷◌, ◌++◌, length, get_or, take, drop, refl, sym, ap, ◌∙◌, subst, arith, take-append-drop}
use Rattle.std.specs.Prelude.{is_some, nat_eq}
use Rattle.std.specs.List.{list_all}
use Rattle.std.specs.Cmp.Lexicographic.{pointwise, same_text}
use Rattle.std.proofs.lemmas.Bool.{eqb-true, and_parts, both_ways, false≢true}
use Rattle.std.proofs.lemmas.List.Sums.{AllPass-from_list_all}
use Rattle.c_syntax.specs.declared.token.TokenKind.TheVariants as kinds
use Rattle.c_syntax.specs.declared.punctuator.Punctuator.{Punctuator}
use Rattle.c_syntax.specs.declared.punctuator.Punctuator.TheVariants.{Slash, ShiftLeftAssign, ShiftRightAssign}
use Rattle.c_lexer_lexemes.specs.Bytes.{is_white, is_word_byte}
use Rattle.c_lexer_lexemes.specs.Faults.{IsBadByte}
use Rattle.c_lexer_lexemes.specs.Lexemes.{IsLexeme, IsLongest}
use Rattle.c_lexer_lexemes.specs.Parts.{BeginsComment, IsToken}
use Rattle.c_lexer_lexemes.specs.Lookups.{row_of, alone, with_equals, doubled, pair, triple, first_of, sized, longest_of}
use Rattle.c_lexer_lexemes.specs.Punctuators.{punctuator_text}
use Rattle.c_lexer_lexemes.proofs.Starts.{some_is, none_some, found_is, byte_of_front, length_of_front, front_one, front_two, front_three, word_first, character_first, character_some, lexeme_some, not_both, longest_front, front_taken, first_byte}

module _ (spell : ℕ → List ℕ) (b : ℕ) (p : Punctuator) where
  abbrev Fits : ℕ × Punctuator → Bool
  Fits row = pointwise nat_eq (punctuator_text row.1) (spell row.0)

  row_at : (row : ℕ × Punctuator) (rest : Option Punctuator) (t u : Bool) → eqb b row.0 ≡ t → Fits row ≡ u → (u && true) ≡ true → (rest ≡ Some p → punctuator_text p ≡ spell b) → cond t (Some row.1) rest ≡ Some p → punctuator_text p ≡ spell b
  row_at row rest true true is fits all later e =
      let same = some_is row.1 p e in
      ap punctuator_text (sym same) ∙ same_text (punctuator_text row.1) (spell row.0) (sym fits) ∙ ap spell (sym (eqb-true b row.0 is))
  row_at row rest true false is fits all later e = absurd (false≢true all)
  row_at row rest false u is fits all later e = later e

  row_spelled : (rows : List (ℕ × Punctuator)) → list_all Fits rows ≡ true → row_of rows b ≡ Some p → punctuator_text p ≡ spell b
  row_spelled [] all e = absurd (none_some e)
  row_spelled (row ∷ rows) all e =
      let parts = and_parts (Fits row) (list_all Fits rows) all in
      row_at row (row_of rows b) (eqb b row.0) (Fits row) refl refl (ap (λ t. t && true) parts.0) (row_spelled rows parts.1) e

alone_spelled : (a : ℕ) (p : Punctuator) → row_of alone a ≡ Some p → punctuator_text p ≡ a ∷ []
alone_spelled a p e = row_spelled (λ b. b ∷ []) a p alone refl e

pair_at : (a b : ℕ) (p : Punctuator) (t u : Bool) → eqb b 61 ≡ t → eqb b a ≡ u → cond t (row_of with_equals a) (cond u (row_of doubled a) None) ≡ Some p → punctuator_text p ≡ a ∷ b ∷ []
pair_at a b p true u is same e = row_spelled (λ c. c ∷ 61 ∷ []) a p with_equals refl e ∙ ap (λ c. a ∷ c ∷ []) (sym (eqb-true b 61 is))
pair_at a b p false true is same e = row_spelled (λ c. c ∷ c ∷ []) a p doubled refl e ∙ ap (λ c. a ∷ c ∷ []) (sym (eqb-true b a same))
pair_at a b p false false is same e = absurd (none_some e)

pair_spelled : (a b : ℕ) (p : Punctuator) → pair a b ≡ Some p → punctuator_text p ≡ a ∷ b ∷ []
pair_spelled a b p e = pair_at a b p (eqb b 61) (eqb b a) refl refl e

triple_bytes : (a b c n : ℕ) → (eqb a n && (eqb b n && eqb c 61)) ≡ true → n ∷ n ∷ 61 ∷ [] ≡ a ∷ b ∷ c ∷ []
triple_bytes a b c n e =
    let first = and_parts (eqb a n) (eqb b n && eqb c 61) e in
    let second = and_parts (eqb b n) (eqb c 61) first.1 in
    sym (λ i. eqb-true a n first.0 i ∷ eqb-true b n second.0 i ∷ eqb-true c 61 second.1 i ∷ [])

triple_at : (a b c : ℕ) (p : Punctuator) (t u : Bool) → (eqb a 60 && (eqb b 60 && eqb c 61)) ≡ t → (eqb a 62 && (eqb b 62 && eqb c 61)) ≡ u → cond t (Some ShiftLeftAssign) (cond u (Some ShiftRightAssign) None) ≡ Some p → punctuator_text p ≡ a ∷ b ∷ c ∷ []
triple_at a b c p true u left right e =
    let same = some_is ShiftLeftAssign p e in
    ap punctuator_text (sym same) ∙ triple_bytes a b c 60 left
triple_at a b c p false true left right e =
    let same = some_is ShiftRightAssign p e in
    ap punctuator_text (sym same) ∙ triple_bytes a b c 62 right
triple_at a b c p false false left right e = absurd (none_some e)

triple_spelled : (a b c : ℕ) (p : Punctuator) → triple a b c ≡ Some p → punctuator_text p ≡ a ∷ b ∷ c ∷ []
triple_spelled a b c p e = triple_at a b c p (eqb a 60 && (eqb b 60 && eqb c 61)) (eqb a 62 && (eqb b 62 && eqb c 61)) refl refl e

-- no byte of a punctuator is 0
nonzero : ℕ → Bool
nonzero b = not (eqb b 0)

no_zeros : (p : Punctuator) → list_all nonzero (punctuator_text p) ≡ true
unfolding nonzero
no_zeros Slash = refl
no_zeros _ = refl

zero_no : nonzero 0 ≡ false
unfolding nonzero
zero_no = refl

no_zero : (p : Punctuator) (k : ℕ) → k < length (punctuator_text p) → get_or (punctuator_text p) k 0 ≢ 0
no_zero p k h e = both_ways (nonzero (get_or (punctuator_text p) k 0)) (ap nonzero e ∙ zero_no) (AllPass-from_list_all nonzero (punctuator_text p) (no_zeros p) k 0 h)

-- the bytes of a text that a punctuator was found by
pub record IsAtFront (text : List ℕ) (p : Punctuator) (len : ℕ) : Type 0 where
  pub len_is : length (punctuator_text p) ≡ len
  pub split : text ≡ punctuator_text p ++ drop len text

module _ (text : List ℕ) (p : Punctuator) where
  abbrev byte : ℕ → ℕ
  byte k = get_or text k 0

  some_byte : (k : ℕ) (bytes : List ℕ) → punctuator_text p ≡ bytes → k < length bytes → get_or bytes k 0 ≡ byte k → byte k ≢ 0
  some_byte k bytes e h same z = no_zero p k (subst (λ (l : List ℕ). k < length l) (sym e) h) (ap (λ (l : List ℕ). get_or l k 0) e ∙ same ∙ z)

  alone_front : row_of alone (byte 0) ≡ Some p → IsAtFront text p 1
  alone_front e =
      let spelled = alone_spelled (byte 0) p e in
      record { len_is = ap (λ (l : List ℕ). length l) spelled; split = front_one text (some_byte 0 _ spelled (omega arith) refl) ∙ ap (λ (l : List ℕ). l ++ drop 1 text) (sym spelled) }

  pair_front : pair (byte 0) (byte 1) ≡ Some p → IsAtFront text p 2
  pair_front e =
      let spelled = pair_spelled (byte 0) (byte 1) p e in
      record { len_is = ap (λ (l : List ℕ). length l) spelled; split = front_two text (some_byte 0 _ spelled (omega arith) refl) (some_byte 1 _ spelled (omega arith) refl) ∙ ap (λ (l : List ℕ). l ++ drop 2 text) (sym spelled) }

  triple_front : triple (byte 0) (byte 1) (byte 2) ≡ Some p → IsAtFront text p 3
  triple_front e =
      let spelled = triple_spelled (byte 0) (byte 1) (byte 2) p e in
      record { len_is = ap (λ (l : List ℕ). length l) spelled; split = front_three text (some_byte 0 _ spelled (omega arith) refl) (some_byte 1 _ spelled (omega arith) refl) (some_byte 2 _ spelled (omega arith) refl) ∙ ap (λ (l : List ℕ). l ++ drop 3 text) (sym spelled) }

  found_at : (len : ℕ) (t u v : Option Punctuator) → triple (byte 0) (byte 1) (byte 2) ≡ t → pair (byte 0) (byte 1) ≡ u → row_of alone (byte 0) ≡ v → first_of (sized 3 t) (first_of (sized 2 u) (sized 1 v)) ≡ Some (p, len) → IsAtFront text p len
  found_at len (Some q) u v three two one e =
      let parts = found_is q p 3 len e in
      subst (IsAtFront text p) parts.1 (triple_front (three ∙ ap (λ r. Some r) parts.0))
  found_at len None (Some q) v three two one e =
      let parts = found_is q p 2 len e in
      subst (IsAtFront text p) parts.1 (pair_front (two ∙ ap (λ r. Some r) parts.0))
  found_at len None None (Some q) three two one e =
      let parts = found_is q p 1 len e in
      subst (IsAtFront text p) parts.1 (alone_front (one ∙ ap (λ r. Some r) parts.0))
  found_at len None None None three two one e = absurd (none_some e)

  -- what is found is at the front
  pub found_front : (len : ℕ) → longest_of (byte 0) (byte 1) (byte 2) ≡ Some (p, len) → IsAtFront text p len
  found_front len e = found_at len (triple (byte 0) (byte 1) (byte 2)) (pair (byte 0) (byte 1)) (row_of alone (byte 0)) refl refl refl e

-- how long what is found is
size : Option (Punctuator × ℕ) → ℕ
size None = 0
size (Some found) = found.1

least_one : (t u v : Option Punctuator) → is_some v ≡ true → 1 ≤ size (first_of (sized 3 t) (first_of (sized 2 u) (sized 1 v)))
unfolding size
least_one (Some q) u v e = omega arith
least_one None (Some q) v e = omega arith
least_one None None (Some q) e = omega arith
least_one None None None e = absurd (false≢true e)

least_two : (t u : Option Punctuator) (rest : Option (Punctuator × ℕ)) → is_some u ≡ true → 2 ≤ size (first_of (sized 3 t) (first_of (sized 2 u) rest))
unfolding size
least_two (Some q) u rest e = omega arith
least_two None (Some q) rest e = omega arith
least_two None None rest e = absurd (false≢true e)

least_three : (t : Option Punctuator) (rest : Option (Punctuator × ℕ)) → is_some t ≡ true → 3 ≤ size (first_of (sized 3 t) rest)
unfolding size
least_three (Some q) rest e = omega arith
least_three None rest e = absurd (false≢true e)

-- the bytes are in the table for their number
is_listed : List ℕ → Bool
is_listed [] = false
is_listed (a ∷ []) = is_some (row_of alone a)
is_listed (a ∷ b ∷ []) = is_some (pair a b)
is_listed (a ∷ b ∷ c ∷ []) = is_some (triple a b c)
is_listed (a ∷ b ∷ c ∷ d ∷ more) = false

all_listed : (p : Punctuator) → is_listed (punctuator_text p) ≡ true
unfolding is_listed
all_listed Slash = refl
all_listed _ = refl

found_in : List ℕ → Option (Punctuator × ℕ)
found_in text = longest_of (get_or text 0 0) (get_or text 1 0) (get_or text 2 0)

listed_found : (bytes behind : List ℕ) → is_listed bytes ≡ true → length bytes ≤ size (found_in (bytes ++ behind))
unfolding is_listed found_in
listed_found [] behind e = absurd (false≢true e)
listed_found (a ∷ []) behind e = least_one (triple a (get_or behind 0 0) (get_or behind 1 0)) (pair a (get_or behind 0 0)) (row_of alone a) e
listed_found (a ∷ b ∷ []) behind e = least_two (triple a b (get_or behind 0 0)) (pair a b) (sized 1 (row_of alone a)) e
listed_found (a ∷ b ∷ c ∷ []) behind e = least_three (triple a b c) (first_of (sized 2 (pair a b)) (sized 1 (row_of alone a))) e
listed_found (a ∷ b ∷ c ∷ d ∷ more) behind e = absurd (false≢true e)

-- A text that begins with no word and no quote begins with no lexeme longer than what is found.
module _ (text : List ℕ) (no_word : is_word_byte (get_or text 0 0) ≡ false) (no_quote : get_or text 0 0 ≢ 39) where
  no_longer : (other behind : List ℕ) → IsLexeme other → text ≡ other ++ behind → length other ≤ size (found_in text)
  no_longer other behind (IsLexeme.word w) e = absurd (not_both (ap is_word_byte (byte_of_front text other behind 0 e w.some) ∙ word_first other w) no_word)
  no_longer other behind (IsLexeme.character n is) e = absurd (no_quote (byte_of_front text other behind 0 e (character_some other n is) ∙ character_first other n is))
  no_longer other behind (IsLexeme.punctuator p q) e =
      let whole : text ≡ punctuator_text p ++ behind = e ∙ ap (λ (l : List ℕ). l ++ behind) q in
      let most = listed_found (punctuator_text p) behind (all_listed p) in
      let len : length other ≡ length (punctuator_text p) = ap (λ (l : List ℕ). length l) q in
      let size_is : size (found_in text) ≡ size (found_in (punctuator_text p ++ behind)) = ap (λ (l : List ℕ). size (found_in l)) whole in
      omega arith

  size_of : (r : Option (Punctuator × ℕ)) → longest_of (get_or text 0 0) (get_or text 1 0) (get_or text 2 0) ≡ r → size (found_in text) ≡ size r
  unfolding found_in
  size_of r e = ap size e

  pub longest_found : (p : Punctuator) (len : ℕ) → len ≤ length text → longest_of (get_or text 0 0) (get_or text 1 0) (get_or text 2 0) ≡ Some (p, len) → IsLongest (take len text) (drop len text)
  unfolding size
  longest_found p len fits e = longest_front text len fits (λ other behind lexeme split. let most = no_longer other behind lexeme split in let is = size_of (Some (p, len)) e in omega arith)

  pub no_lexeme : longest_of (get_or text 0 0) (get_or text 1 0) (get_or text 2 0) ≡ None → (bytes rest : List ℕ) → IsLexeme bytes → text ≢ bytes ++ rest
  unfolding size
  no_lexeme e bytes rest lexeme split = let most = no_longer bytes rest lexeme split in let is = size_of None e in let some = lexeme_some bytes lexeme in absurd (omega arith)

  pub punctuator_token : (p : Punctuator) (len : ℕ) → (BeginsComment text → ⊥) → longest_of (get_or text 0 0) (get_or text 1 0) (get_or text 2 0) ≡ Some (p, len) → (len ≤ length text) × IsToken (kinds.Punctuator p) (take len text) (drop len text)
  punctuator_token p len no_comment e =
      let front = found_front text p len e in
      let taken = front_taken text (punctuator_text p) (drop len text) len front.len_is front.split in
      let whole = length_of_front text (punctuator_text p) (drop len text) front.split in
      let is = front.len_is in
      let fits : len ≤ length text = omega arith in
      (fits, record { spelled = taken; longest = longest_found p len fits e; no_comment = λ c. no_comment (subst BeginsComment (take-append-drop len text) c) })

  pub bad_byte : 0 < length text → is_white (get_or text 0 0) ≡ false → longest_of (get_or text 0 0) (get_or text 1 0) (get_or text 2 0) ≡ None → IsBadByte text
  bad_byte some no_white e = record { byte = get_or text 0 0; behind = drop 1 text; first = first_byte text some; no_white = no_white; no_quote = no_quote; no_lexeme = no_lexeme e }
