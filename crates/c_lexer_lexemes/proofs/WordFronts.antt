-- The word at the front of a text.
use Rattle.std.proofs.Common.{◌≡◌, ℕ, ◌+◌, ◌<◌, ◌≤◌, true, false, Option, Some, None, List, ◌++◌, length, get_or, take, drop, sym, ap, ◌∙◌, subst, arith, ⊎_elim, take-append-drop, length-take-le, get_or-take}
use Rattle.std.specs.Prelude.{MatchOption}
use Rattle.std.proofs.lemmas.List.Elements.{All-from_get_or}
use Rattle.std.proofs.str.Laws.{order}
use Rattle.c_lexer_lexemes.specs.Bytes.{is_word_byte}
use Rattle.c_syntax.specs.declared.token.TokenKind.{TokenKind}
use Rattle.c_lexer_lexemes.specs.Faults.{IsRefused, IsBadNumber}
use Rattle.c_lexer_lexemes.specs.Lexemes.{IsWord, IsLexeme, IsLongest, Spells}
use Rattle.c_lexer_lexemes.specs.Parts.{BeginsComment, IsToken}
use Rattle.c_lexer_lexemes.proofs.Starts.{byte_of_front, length_of_front, punctuator_first, punctuator_some, character_first, character_some, comment_first, not_both, longest_front}

-- a text begins with n bytes of a word, and no more
pub record BeginsWith (text : List ℕ) (n : ℕ) : Type 0 where
  pub some : 0 < n
  pub in_range : n ≤ length text
  pub each : (k : ℕ) → k < n → is_word_byte (get_or text k 0) ≡ true
  pub ends : n < length text → is_word_byte (get_or text n 0) ≡ false

module _ (text : List ℕ) (n : ℕ) (begins : BeginsWith text n) where
  pub front_is_word : IsWord (take n text)
  front_is_word =
      let len = length-take-le n text begins.in_range in
      record {
        some = omega (arith, begins.some);
        all = All-from_get_or (λ b. is_word_byte b ≡ true) (take n text) 0 (λ k h. ap is_word_byte (get_or-take n text k 0 (omega arith)) ∙ begins.each k (omega arith));
      }

  most : (other behind : List ℕ) → IsLexeme other → text ≡ other ++ behind → length other ≤ n
  most other behind (IsLexeme.word w) e =
      ⊎_elim
      (λ (longer : n < length other).
      let there : get_or text n 0 ≡ get_or other n 0 = byte_of_front text other behind n e longer in
      let all : length text ≡ length other + length behind = length_of_front text other behind e in
      absurd (not_both (ap is_word_byte there ∙ w.all n 0 longer) (begins.ends (omega arith))))
      (λ (enough : length other ≤ n). enough)
      (order n (length other))
  most other behind (IsLexeme.punctuator p q) e =
      let first = byte_of_front text other behind 0 e (subst (λ (l : List ℕ). 0 < length l) (sym q) (punctuator_some p)) in
      absurd (not_both (begins.each 0 begins.some) (ap is_word_byte (first ∙ ap (λ (l : List ℕ). get_or l 0 0) q) ∙ punctuator_first p))
  most other behind (IsLexeme.character c is) e =
      let first = byte_of_front text other behind 0 e (character_some other c is) in
      absurd (not_both (begins.each 0 begins.some) (ap is_word_byte (first ∙ character_first other c is)))

  pub word_longest : IsLongest (take n text) (drop n text)
  word_longest = longest_front text n begins.in_range most

  pub word_no_comment : BeginsComment (take n text ++ drop n text) → ⊥
  word_no_comment c = not_both (begins.each 0 begins.some) (ap is_word_byte (comment_first text (subst BeginsComment (take-append-drop n text) c)))

  pub word_token : (o : Option TokenKind) (k : TokenKind) → o ≡ Some k → MatchOption o (IsRefused (take n text)) (λ k. Spells k (take n text)) → IsToken k (take n text) (drop n text)
  word_token o k e told = record { spelled = subst (λ o. MatchOption o (IsRefused (take n text)) (λ k. Spells k (take n text))) e told; longest = word_longest; no_comment = word_no_comment }

  pub bad_number : (o : Option TokenKind) → o ≡ None → MatchOption o (IsRefused (take n text)) (λ k. Spells k (take n text)) → IsBadNumber text
  bad_number o e told = record { word = take n text; rest = drop n text; split = sym (take-append-drop n text); is_word = front_is_word; longest = word_longest; refused = subst (λ o. MatchOption o (IsRefused (take n text)) (λ k. Spells k (take n text))) e told }

-- a text that begins with a byte of a word begins with one
pub begins_with : (text : List ℕ) (n : ℕ) → is_word_byte (get_or text 0 0) ≡ true → 0 < length text → n ≤ length text → ((k : ℕ) → k < n → is_word_byte (get_or text k 0) ≡ true) → (n < length text → is_word_byte (get_or text n 0) ≡ false) → BeginsWith text n
begins_with text n first some fits each ends =
    record {
      some = ⊎_elim (λ (here : 0 < n). here) (λ (none : n ≤ 0). let zero : n ≡ 0 = omega arith in absurd (not_both first (ap (λ k. is_word_byte (get_or text k 0)) (sym zero) ∙ ends (omega arith)))) (order 0 n);
      in_range = fits;
      each = each;
      ends = ends;
    }
