-- Words behind blanks, up to the end of the line, are told by their text.
use Rattle.std.proofs.Common.{◌≡◌, ℕ, false, List, [], ◌∷◌, ◌++◌, map, refl, sym, ap, ◌∙◌, arith}
use Rattle.std.specs.List.{AllByRecursion}
use Rattle.std.proofs.lemmas.List.{append_assoc, append_cancel_left}
use Rattle.text_keys.specs.declared.word.Word.{Word}
use Rattle.text_keys.specs.Words.{word_text, is_printed, WordFits}
use Rattle.text_keys.specs.Lines.{spaced, spaced_each, spaced_word, line_end}
use Rattle.text_keys.proofs.Clear.{heads, tails, cut, Clear}
use Rattle.text_keys.proofs.Words.{word_printed, word_tells}

-- what stands behind a word of a line begins with a byte that no word has
abbrev Break : List ℕ → Type 0
Break t = (x : ℕ) × (rest : List ℕ) × (t ≡ x ∷ rest) × (is_printed x ≡ false)

abbrev line : List Word → List ℕ → List ℕ
line ws r = spaced ws ++ 10 ∷ r

break : (ws : List Word) (r : List ℕ) → Break (line ws r)
break [] r = (10, r, refl, refl)
break (w ∷ ws) r = (32, (word_text w ++ spaced ws) ++ 10 ∷ r, refl, refl)

word_cut : (v w : Word) (t u : List ℕ) → WordFits v → WordFits w → Break t → Break u → word_text v ++ t ≡ word_text w ++ u → (v ≡ w) × (t ≡ u)
word_cut v w t u fits fits' b c e =
    let parts = cut is_printed (word_text v) (word_text w) b.0 c.0 b.1 c.1 (word_printed v fits) (word_printed w fits') b.3 c.3 (ap (λ l. word_text v ++ l) (sym b.2) ∙ e ∙ ap (λ l. word_text w ++ l) c.2) in
    (word_tells v w fits fits' parts.0, b.2 ∙ parts.1 ∙ sym c.2)

pub words_tell : (vs ws : List Word) (r s : List ℕ) → AllByRecursion WordFits vs → AllByRecursion WordFits ws → line vs r ≡ line ws s → (vs ≡ ws) × (r ≡ s)
words_tell [] [] r s fits fits' e = (refl, tails 10 10 r s e)
words_tell [] (w ∷ ws) r s fits fits' e = absurd (let b = heads 10 32 r ((word_text w ++ spaced ws) ++ 10 ∷ s) e in omega arith)
words_tell (v ∷ vs) [] r s fits fits' e = absurd (let b = heads 32 10 ((word_text v ++ spaced vs) ++ 10 ∷ r) s e in omega arith)
words_tell (v ∷ vs) (w ∷ ws) r s fits fits' e =
    let behind = tails 32 32 ((word_text v ++ spaced vs) ++ 10 ∷ r) ((word_text w ++ spaced ws) ++ 10 ∷ s) e in
    let one = word_cut v w (line vs r) (line ws s) fits.0 fits'.0 (break vs r) (break ws s)
    (sym (append_assoc (word_text v) (spaced vs) (10 ∷ r)) ∙ behind ∙ append_assoc (word_text w) (spaced ws) (10 ∷ s)) in
    let more = words_tell vs ws r s fits.1 fits'.1 one.1 in
    (λ i. one.0 i ∷ more.0 i, more.1)

pub spaced-append : (vs ws : List Word) → spaced (vs ++ ws) ≡ spaced vs ++ spaced ws
spaced-append [] ws = refl
spaced-append (v ∷ vs) ws = ap (λ t. spaced_word v ++ t) (spaced-append vs ws) ∙ sym (append_assoc (spaced_word v) (spaced vs) (spaced ws))

pub spaced_map : {A : Type 0} (word : A → Word) (xs : List A) → spaced_each word xs ≡ spaced (map word xs)
spaced_map word [] = refl
spaced_map word (x ∷ xs) = ap (λ t. spaced_word (word x) ++ t) (spaced_map word xs)

-- ---- a line of what is read from its words again

pub all-append : (vs ws : List Word) → AllByRecursion WordFits vs → AllByRecursion WordFits ws → AllByRecursion WordFits (vs ++ ws)
all-append [] ws fits fits' = fits'
all-append (v ∷ vs) ws fits fits' = (fits.0, all-append vs ws fits.1 fits')

-- three parts of a line are one
one_line : (us vs ws : List Word) (r : List ℕ) → (spaced us ++ (spaced vs ++ (spaced ws ++ line_end))) ++ r ≡ line (us ++ (vs ++ ws)) r
one_line us vs ws r =
    append_assoc (spaced us) (spaced vs ++ (spaced ws ++ line_end)) r
    ∙ ap (λ t. spaced us ++ t) (append_assoc (spaced vs) (spaced ws ++ line_end) r ∙ ap (λ t. spaced vs ++ t) (append_assoc (spaced ws) line_end r) ∙ sym (append_assoc (spaced vs) (spaced ws) (10 ∷ r))
    ∙ ap (λ t. t ++ 10 ∷ r) (sym (spaced-append vs ws)))
    ∙ sym (append_assoc (spaced us) (spaced (vs ++ ws)) (10 ∷ r))
    ∙ ap (λ t. t ++ 10 ∷ r) (sym (spaced-append us (vs ++ ws)))

module _ {A : Type 0} (left right behind : A → List Word) (Fits : A → Type 0) (read : List Word → A) (again : (x : A) → read (left x ++ (right x ++ behind x)) ≡ x)
    (left_fits : (x : A) → Fits x → AllByRecursion WordFits (left x)) (right_fits : (x : A) → Fits x → AllByRecursion WordFits (right x)) (behind_fits : (x : A) → Fits x → AllByRecursion WordFits (behind x)) where
  abbrev told : A → List ℕ
  told x = spaced (left x) ++ (spaced (right x) ++ (spaced (behind x) ++ line_end))

  abbrev whole : List ℕ → A → List ℕ
  whole front x = front ++ told x

  all_fit : (x : A) → Fits x → AllByRecursion WordFits (left x ++ (right x ++ behind x))
  all_fit x fits = all-append (left x) (right x ++ behind x) (left_fits x fits) (all-append (right x) (behind x) (right_fits x fits) (behind_fits x fits))

  pub line_clear : (front : List ℕ) → Clear (whole front) Fits (λ _. Unit {0})
  line_clear front a b r s fits fits' ends ends' e =
      let words : (x : A) → List Word = λ x. left x ++ (right x ++ behind x) in
      let parts = words_tell (words a) (words b) r s (all_fit a fits) (all_fit b fits')
      (sym (one_line (left a) (right a) (behind a) r)
      ∙ append_cancel_left front (told a ++ r) (told b ++ s) (sym (append_assoc front (told a) r) ∙ e ∙ append_assoc front (told b) s)
      ∙ one_line (left b) (right b) (behind b) s) in
      (sym (again a) ∙ ap read parts.0 ∙ again b, parts.1)
