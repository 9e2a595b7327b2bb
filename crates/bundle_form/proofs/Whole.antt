-- A form that all of the bytes are.
use Rattle.std.proofs.Common.{◌≡◌, ◌≢◌, ℕ, List, [], ◌∷◌, ◌++◌, Result, Ok, Err, refl, sym, ap, ◌∙◌, append-nil}
use Rattle.lang_base.specs.declared.errors.FormError.{FormError}
use Rattle.lang_base.specs.declared.errors.FormError.TheVariants.{NotCanonical}
use Rattle.lang_base.specs.Reading.{Reading, ◌>>=◌}
use Rattle.lang_base.proofs.Forms.{IsForm, AreBytes, one_text, no_text}
use Rattle.bundle_form.specs.Reading.{alone, whole}

module _ {A : Type 0} {reading : Reading A} {text : A → List ℕ} {Fits : A → Type 0} (form : IsForm reading text Fits) (bytes : List ℕ) where
  -- what is read with nothing behind it is the whole
  pub is_whole : (x : A) (rest : List ℕ) → reading bytes ≡ Ok (x, rest) → rest ≡ [] → whole reading bytes ≡ Ok x
  is_whole x rest e none = ap (λ r. r >>= λ p. alone p.0 p.1) e ∙ ap (alone x) none

  -- bytes behind it are a fault
  behind_at : (x : A) (rest : List ℕ) → rest ≢ [] → alone x rest ≡ Err NotCanonical
  behind_at x [] some = absurd (some refl)
  behind_at x (b ∷ rest) some = refl

  pub has_behind : (x : A) (rest : List ℕ) → reading bytes ≡ Ok (x, rest) → rest ≢ [] → whole reading bytes ≡ Err NotCanonical
  has_behind x rest e some = ap (λ r. r >>= λ p. alone p.0 p.1) e ∙ behind_at x rest some

  -- so is the first fault of the form
  pub no_whole : (fault : FormError) → reading bytes ≡ Err fault → whole reading bytes ≡ Err fault
  no_whole fault e = ap (λ r. r >>= λ p. alone p.0 p.1) e

  -- the bytes are the text of what is read, if that is all
  pub whole_text : (x : A) (rest : List ℕ) → AreBytes bytes → reading bytes ≡ Ok (x, rest) → rest ≡ [] → (bytes ≡ text x) × Fits x
  whole_text x rest are e none =
      let t = form.takes bytes x rest are e in
      (t.parts ∙ ap (λ r. text x ++ r) none ∙ append-nil (text x), t.fits)

  -- bytes behind it: all of them are no text
  pub not_whole : (x : A) (rest : List ℕ) → AreBytes bytes → reading bytes ≡ Ok (x, rest) → rest ≢ [] → (y : A) → Fits y → bytes ≢ text y
  not_whole x rest are e some y fits is =
      let t = form.takes bytes x rest are e in
      let same : text x ++ rest ≡ text y ++ [] = sym t.parts ∙ is ∙ sym (append-nil (text y)) in
      some (one_text form x y rest [] t.fits fits same).1

  -- nor are those with a fault
  pub none_whole : (fault : FormError) → reading bytes ≡ Err fault → (y : A) → Fits y → bytes ≢ text y
  none_whole fault e y fits is = no_text form bytes fault e y [] fits (is ∙ sym (append-nil (text y)))
