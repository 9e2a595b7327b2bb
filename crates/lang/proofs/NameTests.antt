-- What is tested of a name is what a name is.
use Rattle.std.proofs.Common.{◌≡◌, ◌≢◌, ℕ, ◌<◌, Bool, true, List, [], ◌∷◌, length, Option, Some, None, refl, sym, ◌∙◌, arith}
use Rattle.std.specs.Prelude.{not, ◌&&◌, ◌↔◌, nat_eq}
use Rattle.std.specs.List.{list_all, AllByRecursion}
use Rattle.std.specs.Option.{is_none}
use Rattle.std.proofs.lemmas.Bool.{and_parts, and_from, not-true, not_from_false}
use Rattle.std.proofs.lemmas.Bool.Decides.{nat_tests}
use Rattle.std.proofs.lemmas.List.Sums.{AllPass-from_list_all, list_all-from_AllPass}
use Rattle.c_lexer_lexemes.specs.Keyword.{Keyword}
use Rattle.c_lexer_lexemes.specs.Bytes.{is_word_byte, begins_with_digit}
use Rattle.c_lexer_lexemes.specs.Keywords.{keyword_text}
use Rattle.c_lexer_lexemes.specs.Lookups.{keyword_of}
use Rattle.c_lexer_lexemes.proofs.KeywordTexts.{keyword_is, no_keyword}
use Rattle.c_lexer_lexemes.specs.Lexemes.{IsName}
use Rattle.lang.specs.Reading.{is_word, is_name}

none_is : {A : Type 0} (o : Option A) → is_none o ≡ true → o ≡ None
none_is None e = refl
none_is (Some x) e = absurd cc

none_from : (bytes : List ℕ) (o : Option Keyword) → keyword_of bytes ≡ o → ((k : Keyword) → bytes ≢ keyword_text k) → is_none o ≡ true
none_from bytes None e other = refl
none_from bytes (Some k) e other = absurd (other k (keyword_is bytes k e))

not_empty : (n : ℕ) → not (nat_eq n 0) ≡ true → 0 < n
not_empty n e = grind (arith, nat_tests)

some_test : (n : ℕ) → 0 < n → not (nat_eq n 0) ≡ true
some_test n lt = grind (arith, nat_tests)

pub name_is : (bytes : List ℕ) → is_name bytes ≡ true → IsName bytes
name_is bytes e =
    let a = and_parts ((is_word bytes) && not (begins_with_digit bytes)) (is_none (keyword_of bytes)) e in
    let b = and_parts (is_word bytes) (not (begins_with_digit bytes)) a.0 in
    let c = and_parts (not (nat_eq (length bytes) 0)) (list_all is_word_byte bytes) b.0 in
    record {
      word = record { some = not_empty (length bytes) c.0; all = AllPass-from_list_all is_word_byte bytes c.1 };
      no_digit_first = not-true (begins_with_digit bytes) b.1;
      no_keyword = no_keyword bytes (none_is (keyword_of bytes) a.1);
    }

pub is_a_name : (bytes : List ℕ) → IsName bytes → is_name bytes ≡ true
is_a_name bytes n =
    and_from ((is_word bytes) && not (begins_with_digit bytes)) (is_none (keyword_of bytes))
    (and_from (is_word bytes) (not (begins_with_digit bytes))
    (and_from (not (nat_eq (length bytes) 0)) (list_all is_word_byte bytes) (some_test (length bytes) n.word.some) (list_all-from_AllPass is_word_byte bytes n.word.all))
    (not_from_false (begins_with_digit bytes) n.no_digit_first))
    (none_from bytes (keyword_of bytes) refl n.no_keyword)

word_small : (b : ℕ) → is_word_byte b ≡ true → b < 256
word_small b e = grind (arith, nat_tests)

words_small : (bytes : List ℕ) → list_all is_word_byte bytes ≡ true → AllByRecursion (λ b. b < 256) bytes
words_small [] e = tt
words_small (b ∷ bytes) e = let p = and_parts (is_word_byte b) (list_all is_word_byte bytes) e in (word_small b p.0, words_small bytes p.1)

pub name_bytes : (bytes : List ℕ) → IsName bytes → AllByRecursion (λ b. b < 256) bytes
name_bytes bytes n = words_small bytes (list_all-from_AllPass is_word_byte bytes n.word.all)

-- whatever the test gives is whether they are a name
pub name_test : (bytes : List ℕ) (b : Bool) → b ≡ is_name bytes → (b ≡ true) ↔ IsName bytes
name_test bytes b e = ((λ t. name_is bytes (sym e ∙ t)), λ n. e ∙ is_a_name bytes n)
