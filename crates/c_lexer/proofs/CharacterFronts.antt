-- The character constant at the front of a text.
use Rattle.std.proofs.Common.{◌≡◌, ◌≢◌, ℕ, ◌<◌, ◌≤◌, Bool, true, false, cond, eqb, ◌&&◌, Option, Some, None, List, [], ◌∷◌, ◌++◌, length, get_or, take, drop, refl, sym, ap, ◌∙◌, subst, arith, inr, take-append-drop}
use Rattle.std.specs.Prelude.{option_map}
use Rattle.std.proofs.lemmas.Bool.{eqb-true, and_parts}
use Rattle.c_syntax.specs.declared.constant.IntegerType.TheVariants.{Int}
use Rattle.c_syntax.specs.declared.token.TokenKind.TheVariants as kinds
use Rattle.c_lexer_lexemes.specs.Bytes.{is_word_byte}
use Rattle.c_lexer_lexemes.specs.Characters.{is_plain, escape_of, IsCharacter}
use Rattle.c_lexer_lexemes.specs.Faults.{IsBadCharacter}
use Rattle.c_lexer_lexemes.specs.Lexemes.{IsLexeme}
use Rattle.c_lexer_lexemes.specs.Lookups.{character_of}
use Rattle.c_lexer_lexemes.specs.Parts.{BeginsComment, IsToken}
use Rattle.c_lexer_lexemes.proofs.Starts.{none_some, found, found_is, byte_of_front, length_of_front, front_three, front_four, front_taken, first_byte, word_first, punctuator_some, punctuator_quote, comment_first, not_both, longest_front}

-- what three bytes behind a quote are
data Shape (a b c v len : ℕ) : Type 0 where
  plain : is_plain v ≡ true → a ≡ v → b ≡ 39 → 3 ≡ len → Shape a b c v len
  escape : a ≡ 92 → c ≡ 39 → escape_of b ≡ Some v → 4 ≡ len → Shape a b c v len

escaped : (o : Option ℕ) (v len : ℕ) → option_map {U = ℕ × ℕ} (λ n. (n, 4)) o ≡ Some (v, len) → (o ≡ Some v) × (4 ≡ len)
escaped None v len e = absurd (none_some e)
escaped (Some n) v len e =
    let same = found_is n v 4 len e in
    (ap (λ m. Some m) same.0, same.1)

shape_at : (a b c v len : ℕ) (t u : Bool) → (is_plain a && eqb b 39) ≡ t → (eqb a 92 && eqb c 39) ≡ u → cond t (found a 3) (cond u (option_map {U = ℕ × ℕ} (λ n. (n, 4)) (escape_of b)) None) ≡ found v len → Shape a b c v len
shape_at a b c v len true u first second e =
    let same = found_is a v 3 len e in
    let parts = and_parts (is_plain a) (eqb b 39) first in
    let value = same.0 in
    Shape.plain (ap is_plain (sym value) ∙ parts.0) value (eqb-true b 39 parts.1) same.1
shape_at a b c v len false true first second e =
    let parts = and_parts (eqb a 92) (eqb c 39) second in
    let is = escaped (escape_of b) v len e in
    Shape.escape (eqb-true a 92 parts.0) (eqb-true c 39 parts.1) is.0 is.1
shape_at a b c v len false false first second e = absurd (none_some e)

shape_of : (a b c v len : ℕ) → character_of a b c ≡ Some (v, len) → Shape a b c v len
shape_of a b c v len e = shape_at a b c v len (is_plain a && eqb b 39) (eqb a 92 && eqb c 39) refl refl e

-- A character constant is found at the front.
record IsAtFront (text : List ℕ) (v len : ℕ) : Type 0 where
  bytes : List ℕ
  is : IsCharacter bytes v
  len_is : length bytes ≡ len
  split : text ≡ bytes ++ drop len text
  most : (other behind : List ℕ) (n : ℕ) → IsCharacter other n → text ≡ other ++ behind → length other ≤ len

no_backslash : is_plain 92 ≡ false
no_backslash = refl

character_length : (bytes : List ℕ) (n : ℕ) → IsCharacter bytes n → length bytes ≤ 4
character_length bytes n (IsCharacter.plain is e) = omega (arith, ap (λ (l : List ℕ). length l) e)
character_length bytes n (IsCharacter.escape c is e) = omega (arith, ap (λ (l : List ℕ). length l) e)

pub plain_found : (a c : ℕ) → is_plain a ≡ true → character_of a 39 c ≡ Some (a, 3)
plain_found a c is = ap (λ b. cond (b && true) (found a 3) (cond (eqb a 92 && eqb c 39) (option_map {U = ℕ × ℕ} (λ n. (n, 4)) (escape_of 39)) None)) is

pub escape_found : (b n : ℕ) → escape_of b ≡ Some n → character_of 92 b 39 ≡ Some (n, 4)
escape_found b n is = ap (λ (o : Option ℕ). option_map {U = ℕ × ℕ} (λ n. (n, 4)) o) is

module _ (text : List ℕ) (quote : get_or text 0 0 ≡ 39) where
  plain_most : (v : ℕ) → is_plain v ≡ true → get_or text 1 0 ≡ v → (other behind : List ℕ) (n : ℕ) → IsCharacter other n → text ≡ other ++ behind → length other ≤ 3
  plain_most v is second other behind n (IsCharacter.plain here e) split = omega (arith, ap (λ (l : List ℕ). length l) e)
  plain_most v is second other behind n (IsCharacter.escape c here e) split =
      let long : length other ≡ 4 = ap (λ (l : List ℕ). length l) e in
      let slash : get_or text 1 0 ≡ 92 = byte_of_front text other behind 1 split (omega arith) ∙ ap (λ (l : List ℕ). get_or l 1 0) e in
      absurd (not_both is (ap is_plain (sym second ∙ slash) ∙ no_backslash))

  at_front : (v len : ℕ) → Shape (get_or text 1 0) (get_or text 2 0) (get_or text 3 0) v len → IsAtFront text v len
  at_front v len (Shape.plain is a b size) =
      subst (IsAtFront text v) size (record {
        bytes = 39 ∷ v ∷ 39 ∷ [];
        is = IsCharacter.plain is refl;
        len_is = refl;
        split = front_three text (λ z. absurd (omega (arith, quote, z))) (λ z. not_both is (ap is_plain (sym a ∙ z))) (λ z. absurd (omega (arith, b, z))) ∙ (λ i. quote i ∷ a i ∷ b i ∷ drop 3 text);
        most = plain_most v is a;
      })
  at_front v len (Shape.escape a c is size) =
      subst (IsAtFront text v) size (record {
        bytes = 39 ∷ 92 ∷ get_or text 2 0 ∷ 39 ∷ [];
        is = IsCharacter.escape (get_or text 2 0) is refl;
        len_is = refl;
        split = front_four text (λ z. absurd (omega (arith, quote, z))) (λ z. absurd (omega (arith, a, z))) (λ z. none_some (sym (ap escape_of z) ∙ is)) (λ z. absurd (omega (arith, c, z))) ∙ (λ i. quote i ∷ a i ∷ get_or text 2 0 ∷ c i ∷ drop 4 text);
        most = λ other behind n here split. character_length other n here;
      })

  longest_at : (v len : ℕ) → IsAtFront text v len → (other behind : List ℕ) → IsLexeme other → text ≡ other ++ behind → length other ≤ len
  longest_at v len front other behind (IsLexeme.word w) e = absurd (not_both (ap is_word_byte (sym quote ∙ byte_of_front text other behind 0 e w.some) ∙ word_first other w) refl)
  longest_at v len front other behind (IsLexeme.punctuator p q) e =
      let some = subst (λ (l : List ℕ). 0 < length l) (sym q) (punctuator_some p) in
      absurd (punctuator_quote p (sym (ap (λ (l : List ℕ). get_or l 0 0) q) ∙ sym (byte_of_front text other behind 0 e some) ∙ quote))
  longest_at v len front other behind (IsLexeme.character n is) e = front.most other behind n is e

  pub character_token : (v len : ℕ) → character_of (get_or text 1 0) (get_or text 2 0) (get_or text 3 0) ≡ Some (v, len) → (len ≤ length text) × IsToken (kinds.Constant (record { value = v; kind = Int })) (take len text) (drop len text)
  character_token v len e =
      let front = at_front v len (shape_of (get_or text 1 0) (get_or text 2 0) (get_or text 3 0) v len e) in
      let taken = front_taken text front.bytes (drop len text) len front.len_is front.split in
      let whole = length_of_front text front.bytes (drop len text) front.split in
      let is = front.len_is in
      let fits : len ≤ length text = omega arith in (
        fits,
        record {
          spelled = inr (refl, subst (λ l. IsCharacter l v) (sym taken) front.is);
          longest = longest_front text len fits (longest_at v len front);
          no_comment = λ c. absurd (omega (arith, quote, comment_first text (subst BeginsComment (take-append-drop len text) c)));
        },
      )

  no_character : character_of (get_or text 1 0) (get_or text 2 0) (get_or text 3 0) ≡ None → (bytes rest : List ℕ) (n : ℕ) → IsCharacter bytes n → text ≢ bytes ++ rest
  no_character none bytes rest n (IsCharacter.plain is e) split =
      let long : length bytes ≡ 3 = ap (λ (l : List ℕ). length l) e in
      let at = λ (k : ℕ) (h : k < length bytes). byte_of_front text bytes rest k split h ∙ ap (λ (l : List ℕ). get_or l k 0) e in
      let one : get_or text 1 0 ≡ n = at 1 (omega arith) in
      let two : get_or text 2 0 ≡ 39 = at 2 (omega arith) in
      none_some (sym none ∙ (λ i. character_of (one i) (two i) (get_or text 3 0)) ∙ plain_found n (get_or text 3 0) is)
  no_character none bytes rest n (IsCharacter.escape b is e) split =
      let long : length bytes ≡ 4 = ap (λ (l : List ℕ). length l) e in
      let at = λ (k : ℕ) (h : k < length bytes). byte_of_front text bytes rest k split h ∙ ap (λ (l : List ℕ). get_or l k 0) e in
      let one : get_or text 1 0 ≡ 92 = at 1 (omega arith) in
      let two : get_or text 2 0 ≡ b = at 2 (omega arith) in
      let three : get_or text 3 0 ≡ 39 = at 3 (omega arith) in
      none_some (sym none ∙ (λ i. character_of (one i) (two i) (three i)) ∙ escape_found b n is)

  pub bad_character : 0 < length text → character_of (get_or text 1 0) (get_or text 2 0) (get_or text 3 0) ≡ None → IsBadCharacter text
  bad_character some none = record { behind = drop 1 text; quote = first_byte text some ∙ ap (λ b. b ∷ drop 1 text) quote; no_character = no_character none }
