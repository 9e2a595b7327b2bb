-- A name and parameters are told by the first line of a function.
use Rattle.std.proofs.Common.{◌≡◌, ℕ, Bool, true, false, List, [], ◌∷◌, ◌++◌, codes, decimal, refl, sym, ap, ◌∙◌, arith}
use Rattle.std.specs.List.{flat_map, list_all, AllByRecursion}
use Rattle.std.specs.Prelude.{nat_lt}
use Rattle.std.proofs.lemmas.List.{append_assoc, append_cancel_left}
use Rattle.text_keys.specs.declared.word.Letter.{Letter}
use Rattle.text_keys.specs.declared.word.Word.{Word}
use Rattle.text_keys.specs.declared.word.Word.TheVariants.{Lettered, Number, Named}
use Rattle.text_keys.specs.Words.{letter_byte, word_text, WordFits}
use Rattle.text_keys.specs.Names.{next_parameter, parameters_text, named_head}
use Rattle.text_keys.proofs.Clear.{heads, tails, cut, nothing}
use Rattle.std.proofs.lemmas.Bool.{and_parts, lt-ltb, ltb-true}
use Rattle.text_keys.specs.declared.word.Letter.TheVariants.{Register, Slot, Global, Function, Variable}
use Rattle.text_keys.proofs.Keys.{is_digit}
use Rattle.text_keys.proofs.Words.{word_tells, are_digits, and_true}

-- a byte that a name may have: none of "(", and what stands before it in ASCII
abbrev pub is_name_byte : ℕ → Bool
is_name_byte b = nat_lt 40 b

-- a byte that a parameter may have: no comma, no ")"
abbrev is_part : ℕ → Bool
is_part b = nat_lt 44 b

-- a parameter is a letter and a number
abbrev pub IsLettered : Word → Type 0
IsLettered (Lettered l n) = Unit {0}
IsLettered _ = ⊥

abbrev pub ParameterFits : {A : Type 0} → (A → Word) → A → Type 0
ParameterFits word x = WordFits (word x) × IsLettered (word x)

digit_part : (b : ℕ) → is_digit b ≡ true → is_part b ≡ true
digit_part b e = lt-ltb 44 b (let low = ltb-true 47 b (and_parts (nat_lt 47 b) (nat_lt b 58) e).0 in omega arith)

digits_part : (ds : List ℕ) → list_all is_digit ds ≡ true → list_all is_part ds ≡ true
digits_part [] e = refl
digits_part (d ∷ ds) e = let p = and_parts (is_digit d) (list_all is_digit ds) e in and_true (is_part d) _ (digit_part d p.0) (digits_part ds p.1)

letter_part : (l : Letter) → is_part (letter_byte l) ≡ true
letter_part Register = refl
letter_part Slot = refl
letter_part Global = refl
letter_part Function = refl
letter_part Variable = refl

word_part : (w : Word) → WordFits w → IsLettered w → list_all is_part (word_text w) ≡ true
word_part (Lettered l n) fits is = and_true (is_part (letter_byte l)) _ (letter_part l) (digits_part (decimal n) (are_digits n fits).1)
word_part (Number n) fits is = absurd is
word_part (Named k) fits is = absurd is

some : (w : Word) → IsLettered w → [] ≡ word_text w → ⊥
some (Lettered l n) is e = nothing (letter_byte l) (decimal n) e
some (Number n) is e = is
some (Named k) is e = is

module _ {A : Type 0} (word : A → Word) (tells : (x y : A) → word x ≡ word y → x ≡ y) where
  abbrev next : List A → List ℕ → List ℕ
  next xs r = flat_map (next_parameter word) xs ++ 41 ∷ r

  -- what stands behind a parameter begins with a byte that no parameter has
  behind : (xs : List A) (r : List ℕ) → (b : ℕ) × (rest : List ℕ) × (next xs r ≡ b ∷ rest) × (is_part b ≡ false)
  behind [] r = (41, r, refl, refl)
  behind (x ∷ xs) r = (44, 32 ∷ ((word_text (word x) ++ flat_map (next_parameter word) xs) ++ 41 ∷ r), refl, refl)

  one_tells : (x y : A) (xs ys : List A) (r s : List ℕ) → ParameterFits word x → ParameterFits word y →
      (word_text (word x) ++ flat_map (next_parameter word) xs) ++ 41 ∷ r ≡ (word_text (word y) ++ flat_map (next_parameter word) ys) ++ 41 ∷ s → (x ≡ y) × (next xs r ≡ next ys s)
  one_tells x y xs ys r s fits fits' e =
      let b = behind xs r in
      let c = behind ys s in
      let at = append_assoc (word_text (word x)) (flat_map (next_parameter word) xs) (41 ∷ r) in
      let at' = append_assoc (word_text (word y)) (flat_map (next_parameter word) ys) (41 ∷ s) in
      let parts = cut is_part (word_text (word x)) (word_text (word y)) b.0 c.0 b.1 c.1 (word_part (word x) fits.0 fits.1) (word_part (word y) fits'.0 fits'.1) b.3 c.3
      (ap (λ l. word_text (word x) ++ l) (sym b.2) ∙ sym at ∙ e ∙ at' ∙ ap (λ l. word_text (word y) ++ l) c.2) in
      (tells x y (word_tells (word x) (word y) fits.0 fits'.0 parts.0), b.2 ∙ parts.1 ∙ sym c.2)

  next_tells : (xs ys : List A) (r s : List ℕ) → AllByRecursion (ParameterFits word) xs → AllByRecursion (ParameterFits word) ys → next xs r ≡ next ys s → (xs ≡ ys) × (r ≡ s)
  next_tells [] [] r s fits fits' e = (refl, tails 41 41 r s e)
  next_tells [] (y ∷ ys) r s fits fits' e = absurd (let b : 41 ≡ 44 = heads 41 44 r _ e in omega arith)
  next_tells (x ∷ xs) [] r s fits fits' e = absurd (let b : 44 ≡ 41 = heads 44 41 _ s e in omega arith)
  next_tells (x ∷ xs) (y ∷ ys) r s fits fits' e =
      let one = one_tells x y xs ys r s fits.0 fits'.0 (tails 32 32 _ _ (tails 44 44 _ _ e)) in
      let more = next_tells xs ys r s fits.1 fits'.1 one.1 in
      (λ i. one.0 i ∷ more.0 i, more.1)

  none_first : (y : A) (ys : List A) (r s : List ℕ) → ParameterFits word y → 41 ∷ r ≡ (word_text (word y) ++ flat_map (next_parameter word) ys) ++ 41 ∷ s → ⊥
  none_first y ys r s fits e =
      let c = behind ys s in
      some (word y) fits.1 (cut is_part [] (word_text (word y)) 41 c.0 r c.1 refl (word_part (word y) fits.0 fits.1) refl c.3
      (e ∙ append_assoc (word_text (word y)) (flat_map (next_parameter word) ys) (41 ∷ s) ∙ ap (λ l. word_text (word y) ++ l) c.2)).0

  parameters_tell : (xs ys : List A) (r s : List ℕ) → AllByRecursion (ParameterFits word) xs → AllByRecursion (ParameterFits word) ys →
      parameters_text word xs ++ 41 ∷ r ≡ parameters_text word ys ++ 41 ∷ s → (xs ≡ ys) × (r ≡ s)
  parameters_tell [] [] r s fits fits' e = (refl, tails 41 41 r s e)
  parameters_tell [] (y ∷ ys) r s fits fits' e = absurd (none_first y ys r s fits'.0 e)
  parameters_tell (x ∷ xs) [] r s fits fits' e = absurd (none_first x xs s r fits.0 (sym e))
  parameters_tell (x ∷ xs) (y ∷ ys) r s fits fits' e =
      let one = one_tells x y xs ys r s fits.0 fits'.0 e in
      let more = next_tells xs ys r s fits.1 fits'.1 one.1 in
      (λ i. one.0 i ∷ more.0 i, more.1)

  abbrev closed : List A → List ℕ
  closed xs = parameters_text word xs ++ codes ")"

  pub head_tells : (f g : List ℕ) (xs ys : List A) (r s : List ℕ) → list_all is_name_byte f ≡ true → list_all is_name_byte g ≡ true → AllByRecursion (ParameterFits word) xs → AllByRecursion (ParameterFits word) ys →
      named_head word f xs ++ r ≡ named_head word g ys ++ s → (f ≡ g) × (xs ≡ ys) × (r ≡ s)
  head_tells f g xs ys r s named named' fits fits' e =
      let behind_word : (f ++ 40 ∷ closed xs) ++ r ≡ (g ++ 40 ∷ closed ys) ++ s = append_cancel_left (codes "function ") _ _ e in
      let parts = cut is_name_byte f g 40 40 (closed xs ++ r) (closed ys ++ s) named named' refl refl (sym (append_assoc f (40 ∷ closed xs) r) ∙ behind_word ∙ append_assoc g (40 ∷ closed ys) s) in
      let more = parameters_tell xs ys r s fits fits'
      (sym (append_assoc (parameters_text word xs) (codes ")") r) ∙ tails 40 40 _ _ parts.1 ∙ append_assoc (parameters_text word ys) (codes ")") s) in
      (parts.0, more.0, more.1)
