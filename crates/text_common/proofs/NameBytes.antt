-- No name has a parenthesis.
use Rattle.std.proofs.Common.{◌≡◌, ℕ, zero, suc, ◌<◌, Bool, true, not, List, [], ◌∷◌, ◌&&◌, refl, sym, ap, ◌∙◌, arith, inl, inr}
use Rattle.std.specs.List.{list_all}
use Rattle.std.proofs.lemmas.Bool.{and_parts, false≢true, lt-ltb}
use Rattle.std.proofs.lemmas.Bool.Decides.{Decides-below_and, leb_tells}
use Rattle.std.proofs.lemmas.List.Sums.{list_all-from_AllPass}
use Rattle.c_lexer_lexemes.specs.Bytes.{is_word_byte}
use Rattle.c_lexer_lexemes.specs.Lexemes.{IsName}
use Rattle.text_keys.proofs.Names.{is_name_byte}
use Rattle.text_keys.proofs.Words.{and_true}

none_below : ℕ → Bool
none_below zero = true
none_below (suc n) = not (is_word_byte n) && none_below n

no_low : (b : ℕ) → b < 41 → not (is_word_byte b) ≡ true
unfolding none_below
no_low = (Decides-below_and (λ b. not (is_word_byte b)) (λ b. not (is_word_byte b) ≡ true) none_below (λ b. (λ e. e, λ e. e)) refl (λ n. refl) 41).0 refl

word_byte : (b : ℕ) → is_word_byte b ≡ true → is_name_byte b ≡ true
word_byte b e = elim (leb_tells b 40) as (λ _. is_name_byte b ≡ true) [
  | inl low ↦ absurd (false≢true (ap not (sym e) ∙ no_low b (let h = low.1 in omega arith)))
  | inr high ↦ lt-ltb 40 b high.1
]

word_bytes : (bs : List ℕ) → list_all is_word_byte bs ≡ true → list_all is_name_byte bs ≡ true
word_bytes [] e = refl
word_bytes (b ∷ bs) e = let p = and_parts (is_word_byte b) (list_all is_word_byte bs) e in and_true (is_name_byte b) _ (word_byte b p.0) (word_bytes bs p.1)

pub name_bytes : (name : List ℕ) → IsName name → list_all is_name_byte name ≡ true
name_bytes name is = word_bytes name (list_all-from_AllPass is_word_byte name is.word.all)
