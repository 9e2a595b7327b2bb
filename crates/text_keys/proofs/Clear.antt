-- Texts that end by themselves: what stands behind tells nothing of them.
use Rattle.std.proofs.Common.{◌≡◌, ℕ, ◌+◌, ◌≢◌, Bool, true, false, List, [], ◌∷◌, ◌++◌, refl, sym, ap, ◌∙◌, subst}
use Rattle.std.specs.List.{flat_map, AllByRecursion, list_all}
use Rattle.std.proofs.lemmas.List.{append_assoc}
use Rattle.std.proofs.lemmas.Bool.{and_parts, false≢true}
use Rattle.text_keys.specs.Numbered.{numbered_text}

abbrev head : List ℕ → ℕ
head [] = 0
head (x ∷ xs) = x

abbrev tail : List ℕ → List ℕ
tail [] = []
tail (x ∷ xs) = xs

pub heads : (x y : ℕ) (xs ys : List ℕ) → x ∷ xs ≡ y ∷ ys → x ≡ y
heads x y xs ys e = ap head e

pub tails : (x y : ℕ) (xs ys : List ℕ) → x ∷ xs ≡ y ∷ ys → xs ≡ ys
tails x y xs ys e = ap tail e

pub nothing : (c : ℕ) (behind : List ℕ) → [] ≡ c ∷ behind → ⊥
nothing c behind e = cc

-- the bytes do not begin with this one
abbrev pub Outside : ℕ → List ℕ → Type 0
Outside c [] = Unit {0}
Outside c (x ∷ xs) = x ≢ c

-- two texts before rests of a kind are equal only where what they are of is, and the rests are
abbrev pub Clear : {A : Type 0} → (A → List ℕ) → (A → Type 0) → (List ℕ → Type 0) → Type 0
Clear {A} text Fits Stops = (a b : A) (r s : List ℕ) → Fits a → Fits b → Stops r → Stops s → text a ++ r ≡ text b ++ s → (a ≡ b) × (r ≡ s)

-- a text begins with this byte
abbrev pub Begins : ℕ → List ℕ → Type 0
Begins c text = (behind : List ℕ) × (text ≡ c ∷ behind)

-- what passes a test, up to the first byte that does not
pub cut : (test : ℕ → Bool) (v w : List ℕ) (x y : ℕ) (r s : List ℕ) → list_all test v ≡ true → list_all test w ≡ true → test x ≡ false → test y ≡ false → v ++ x ∷ r ≡ w ++ y ∷ s → (v ≡ w) × (x ∷ r ≡ y ∷ s)
cut test [] [] x y r s all all' out out' e = (refl, e)
cut test [] (b ∷ w) x y r s all all' out out' e = absurd (false≢true (sym out ∙ ap test (heads x b r (w ++ y ∷ s) e) ∙ (and_parts (test b) (list_all test w) all').0))
cut test (a ∷ v) [] x y r s all all' out out' e = absurd (false≢true (sym out' ∙ ap test (sym (heads a y (v ++ x ∷ r) s e)) ∙ (and_parts (test a) (list_all test v) all).0))
cut test (a ∷ v) (b ∷ w) x y r s all all' out out' e =
    let more = cut test v w x y r s (and_parts (test a) (list_all test v) all).1 (and_parts (test b) (list_all test w) all').1 out out' (tails a b (v ++ x ∷ r) (w ++ y ∷ s) e) in
    (λ i. heads a b (v ++ x ∷ r) (w ++ y ∷ s) e i ∷ more.0 i, more.1)

-- ---- many, one behind the other, each with its number

module _ {A : Type 0} (text : ℕ → A → List ℕ) (Fits : A → Type 0) (Stops Ends : List ℕ → Type 0) (c : ℕ)
    (begins : (n : ℕ) (a : A) → Begins c (text n a)) (clear : (n : ℕ) → Clear (text n) Fits Stops)
    (stops : (r : List ℕ) → Ends r → Stops r) (out : (r : List ℕ) → Ends r → Outside c r) (on : (r : List ℕ) → Stops (c ∷ r)) where
  not_begun : (r : List ℕ) (n : ℕ) (b : A) (s : List ℕ) → Ends r → r ≡ text n b ++ s → ⊥
  not_begun [] n b s ends e = nothing c _ (e ∙ ap (λ t. t ++ s) (begins n b).1)
  not_begun (x ∷ xs) n b s ends e = out (x ∷ xs) ends (ap head (e ∙ ap (λ t. t ++ s) (begins n b).1))

  stops_on : (n : ℕ) (xs : List A) (r : List ℕ) → Ends r → Stops (numbered_text text n xs ++ r)
  stops_on n [] r ends = stops r ends
  stops_on n (a ∷ xs) r ends = subst Stops (sym (ap (λ t. (t ++ numbered_text text (n + 1) xs) ++ r) (begins n a).1)) (on (((begins n a).0 ++ numbered_text text (n + 1) xs) ++ r))

  pub numbered_clear : (n : ℕ) → Clear (numbered_text text n) (AllByRecursion Fits) Ends
  numbered_clear n [] [] r s fits fits' ends ends' e = (refl, e)
  numbered_clear n [] (b ∷ ys) r s fits fits' ends ends' e = absurd (not_begun r n b (numbered_text text (n + 1) ys ++ s) ends (e ∙ append_assoc (text n b) (numbered_text text (n + 1) ys) s))
  numbered_clear n (a ∷ xs) [] r s fits fits' ends ends' e = absurd (not_begun s n a (numbered_text text (n + 1) xs ++ r) ends' (sym e ∙ append_assoc (text n a) (numbered_text text (n + 1) xs) r))
  numbered_clear n (a ∷ xs) (b ∷ ys) r s fits fits' ends ends' e =
      let one = clear n a b (numbered_text text (n + 1) xs ++ r) (numbered_text text (n + 1) ys ++ s) fits.0 fits'.0 (stops_on (n + 1) xs r ends) (stops_on (n + 1) ys s ends')
      (sym (append_assoc (text n a) (numbered_text text (n + 1) xs) r) ∙ e ∙ append_assoc (text n b) (numbered_text text (n + 1) ys) s) in
      let more = numbered_clear (n + 1) xs ys r s fits.1 fits'.1 ends ends' one.1 in
      (λ i. one.0 i ∷ more.0 i, more.1)

-- ---- many, one behind the other

flat_numbered : {A : Type 0} (text : A → List ℕ) (n : ℕ) (xs : List A) → flat_map text xs ≡ numbered_text (λ _. text) n xs
flat_numbered text n [] = refl
flat_numbered text n (a ∷ xs) = ap (λ t. text a ++ t) (flat_numbered text (n + 1) xs)

pub many_clear : {A : Type 0} (text : A → List ℕ) (Fits : A → Type 0) (Stops Ends : List ℕ → Type 0) (c : ℕ) → ((a : A) → Begins c (text a)) → Clear text Fits Stops →
    ((r : List ℕ) → Ends r → Stops r) → ((r : List ℕ) → Ends r → Outside c r) → ((r : List ℕ) → Stops (c ∷ r)) → Clear (flat_map text) (AllByRecursion Fits) Ends
many_clear text Fits Stops Ends c begins clear stops out on xs ys r s fits fits' ends ends' e =
    numbered_clear (λ _. text) Fits Stops Ends c (λ n. begins) (λ n. clear) stops out on 0 xs ys r s fits fits' ends ends'
    (ap (λ t. t ++ r) (sym (flat_numbered text 0 xs)) ∙ e ∙ ap (λ t. t ++ s) (flat_numbered text 0 ys))
