-- Lists of forms, tables of forms and tagged forms are forms.
use Rattle.std.proofs.Common.{◌≡◌, ℕ, zero, suc, cond, eqb, Bool, true, false, List, [], ◌∷◌, ◌++◌, length, Option, Some, None, Result, Ok, Err, refl, sym, ap, subst, ◌∙◌, append_assoc}
use Rattle.std.specs.Prelude.{IfSome}
use Rattle.std.specs.List.{flat_map, AllByRecursion}
use Rattle.std.proofs.lemmas.Bool.{eqb-true, eq-eqb}
use Rattle.std.proofs.lemmas.List.{append-nil}
use Rattle.lang_base.specs.declared.errors.FormError.{FormError}
use Rattle.lang_base.specs.declared.errors.FormError.TheVariants.{BadTag}
use Rattle.lang_base.specs.Reading.{Reading, byte, made, nothing, optional, more, counted, Table, follow, unknown, coded, tagged}
use Rattle.lang_base.specs.Texts.{option_code, option_body, optional_text, counted_text, EachFits}
use Rattle.lang_base.proofs.Forms.{AreBytes, AreBytes-rest, Takes, IsForm, done, ok_is}
use Rattle.lang_base.proofs.Parts.{bind_ok, byte_form, made_takes, made_again}

module _ {A : Type 0} (part : List A → Reading A) (text : A → List ℕ) (Fits : List A → A → Type 0) (form : (before : List A) → IsForm (part before) text (Fits before)) where
  -- what is read behind those before
  record TakesMore (before : List A) (n : ℕ) (bytes : List ℕ) (xs : List A) (rest : List ℕ) : Type 0 where
    items : List A
    all : xs ≡ before ++ items
    len : length items ≡ n
    takes : Takes (flat_map text) (EachFits Fits before) bytes items rest

  more_takes : (n : ℕ) (before : List A) (bytes : List ℕ) (xs : List A) (rest : List ℕ) → AreBytes bytes → more part before n bytes ≡ Ok (xs, rest) → TakesMore before n bytes xs rest
  more_takes zero before bytes xs rest are e =
      let one = ok_is (before, bytes) (xs, rest) e in
      subst (λ (p : List A × List ℕ). TakesMore before 0 bytes p.0 p.1) one
      (record { items = []; all = sym (append-nil before); len = refl; takes = record { parts = refl; fits = tt } })
  more_takes (suc n) before bytes xs rest are e =
      let p = bind_ok (part before bytes) (λ x. more part (before ++ x.0 ∷ []) n x.1) (xs, rest) e in
      let t = (form before).takes bytes p.0.0 p.0.1 are p.1 in
      let m = more_takes n (before ++ p.0.0 ∷ []) p.0.1 xs rest (AreBytes-rest bytes p.0.0 p.0.1 are t) p.2 in
      record {
        items = p.0.0 ∷ m.items;
        all = m.all ∙ append_assoc before (p.0.0 ∷ []) m.items;
        len = ap suc m.len;
        takes = record {
          parts = t.parts ∙ ap (λ (l : List ℕ). text p.0.0 ++ l) m.takes.parts ∙ sym (append_assoc (text p.0.0) (flat_map text m.items) rest);
          fits = (t.fits, m.takes.fits);
        };
      }

  more_again : (items before : List A) (rest : List ℕ) → EachFits Fits before items → more part before (length items) (flat_map text items ++ rest) ≡ Ok (before ++ items, rest)
  more_again [] before rest fits = ap (λ (xs : List A). done (xs, rest)) (sym (append-nil before))
  more_again (x ∷ items) before rest fits =
      let one = (form before).again x (flat_map text items ++ rest) fits.0 in
      rw (append_assoc (text x) (flat_map text items) rest, one) (more_again items (before ++ x ∷ []) rest fits.1 ∙ ap (λ (xs : List A). done (xs, rest)) (append_assoc before (x ∷ []) items))

  -- so many of a kind, as many as was said before
  pub more_form : (n : ℕ) → IsForm (more part [] n) (flat_map text) (λ xs. (length xs ≡ n) × EachFits Fits [] xs)
  more_form n = record {
    takes = λ bytes xs rest are e.
        let m = more_takes n [] bytes xs rest are e in
        subst (λ ys. Takes (flat_map text) (λ xs. (length xs ≡ n) × EachFits Fits [] xs) bytes ys rest) (sym m.all)
        (record { parts = m.takes.parts; fits = (m.len, m.takes.fits) });
    again = λ xs rest fits. subst (λ k. more part [] k (flat_map text xs ++ rest) ≡ Ok (xs, rest)) fits.0 (more_again xs [] rest fits.1);
  }

  module _ (count : Reading ℕ) (count_text : ℕ → List ℕ) (CountFits : ℕ → Type 0) (count_form : IsForm count count_text CountFits) where
    abbrev CountedFit : List A → Type 0
    CountedFit xs = CountFits (length xs) × EachFits Fits [] xs

    counted_takes : (bytes : List ℕ) (xs : List A) (rest : List ℕ) → AreBytes bytes → counted count part bytes ≡ Ok (xs, rest) → Takes (counted_text count_text text) CountedFit bytes xs rest
    counted_takes bytes xs rest are e =
        let p = bind_ok (count bytes) (λ n. more part [] n.0 n.1) (xs, rest) e in
        let t = count_form.takes bytes p.0.0 p.0.1 are p.1 in
        let u = (more_form p.0.0).takes p.0.1 xs rest (AreBytes-rest bytes p.0.0 p.0.1 are t) p.2 in
        let len : p.0.0 ≡ length xs = sym u.fits.0 in
        record {
          parts = t.parts ∙ ap (λ (l : List ℕ). count_text p.0.0 ++ l) u.parts ∙ sym (append_assoc (count_text p.0.0) (flat_map text xs) rest) ∙ ap (λ n. count_text n ++ flat_map text xs ++ rest) len;
          fits = (subst CountFits len t.fits, u.fits.1);
        }

    counted_again : (xs : List A) (rest : List ℕ) → CountedFit xs → counted count part (counted_text count_text text xs ++ rest) ≡ Ok (xs, rest)
    counted_again xs rest fits =
        let one = count_form.again (length xs) (flat_map text xs ++ rest) fits.0 in
        rw (append_assoc (count_text (length xs)) (flat_map text xs) rest, one) (more_again xs [] rest fits.1)

    pub counted_form : IsForm (counted count part) (counted_text count_text text) CountedFit
    counted_form = record { takes = counted_takes; again = counted_again }

-- where what stands before does not matter
pub each_fits : {A : Type 0} (Fits : A → Type 0) (before xs : List A) → EachFits (λ _ x. Fits x) before xs → AllByRecursion Fits xs
each_fits Fits before [] fits = tt
each_fits Fits before (x ∷ xs) fits = (fits.0, each_fits Fits (before ++ x ∷ []) xs fits.1)

pub fits_each : {A : Type 0} (Fits : A → Type 0) (before xs : List A) → AllByRecursion Fits xs → EachFits (λ _ x. Fits x) before xs
fits_each Fits before [] fits = tt
fits_each Fits before (x ∷ xs) fits = (fits.0, fits_each Fits (before ++ x ∷ []) xs fits.1)

module _ {A : Type 0} (code_of : A → ℕ) (text : A → List ℕ) (Fits : A → Type 0) where
  -- the values with a code
  abbrev pub HasCode : ℕ → A → Type 0
  HasCode code x = Fits x × (code_of x ≡ code)

  -- what is read behind a code is a value with that code
  abbrev pub TakesBehind : ℕ → Reading A → Type 0
  TakesBehind code part = (bytes : List ℕ) (x : A) (rest : List ℕ) → AreBytes bytes → part bytes ≡ Ok (x, rest) → Takes text (HasCode code) bytes x rest

  abbrev pub RowTakes : ℕ × Reading A → Type 0
  RowTakes row = TakesBehind row.0 row.1

  follow_takes_at : (b : Bool) (row : ℕ × Reading A) (rows : Table A) (other : ℕ → Reading A) (code : ℕ) (bytes : List ℕ) (x : A) (rest : List ℕ) → RowTakes row → AreBytes bytes → (follow rows other code bytes ≡ Ok (x, rest) → Takes text (HasCode code) bytes x rest) → eqb row.0 code ≡ b → cond b (row.1 bytes) (follow rows other code bytes) ≡ Ok (x, rest) → Takes text (HasCode code) bytes x rest
  follow_takes_at true row rows other code bytes x rest here are there is e = subst (λ k. Takes text (HasCode k) bytes x rest) (eqb-true row.0 code is) (here bytes x rest are e)
  follow_takes_at false row rows other code bytes x rest here are there is e = there e

  follow_takes : (table : Table A) (other : ℕ → Reading A) → AllByRecursion RowTakes table → ((code : ℕ) → TakesBehind code (other code)) → (code : ℕ) → TakesBehind code (follow table other code)
  follow_takes [] other rows others code bytes x rest are e = others code bytes x rest are e
  follow_takes (row ∷ table) other rows others code bytes x rest are e = follow_takes_at (eqb row.0 code) row table other code bytes x rest rows.0 are (follow_takes table other rows.1 others code bytes x rest are) refl e

  pub unknown_takes : (code : ℕ) → TakesBehind code (unknown code)
  unknown_takes code bytes x rest are e = absurd cc

  -- what follows a code is a form where each row is, and each value's text is read behind its code
  pub follow_form : (table : Table A) (other : ℕ → Reading A) → AllByRecursion RowTakes table → ((code : ℕ) → TakesBehind code (other code)) → ((x : A) (rest : List ℕ) → Fits x → follow table other (code_of x) (text x ++ rest) ≡ Ok (x, rest)) → (code : ℕ) → IsForm (follow table other code) text (HasCode code)
  follow_form table other rows others again code = record {
    takes = follow_takes table other rows others code;
    again = λ x rest fits. subst (λ k. follow table other k (text x ++ rest) ≡ Ok (x, rest)) fits.1 (again x rest fits.0);
  }

  pub coded_form : (behind : ℕ → Reading A) → ((code : ℕ) → IsForm (behind code) text (HasCode code)) → IsForm (coded behind) (λ x. code_of x ∷ text x) Fits
  coded_form behind form = record {
    takes = λ bytes x rest are e.
        let p = bind_ok (byte bytes) (λ code. behind code.0 code.1) (x, rest) e in
        let t = byte_form.takes bytes p.0.0 p.0.1 are p.1 in
        let u = (form p.0.0).takes p.0.1 x rest (AreBytes-rest bytes p.0.0 p.0.1 are t) p.2 in
        record { parts = t.parts ∙ ap (λ (l : List ℕ). p.0.0 ∷ l) u.parts ∙ ap (λ k. k ∷ (text x ++ rest)) (sym u.fits.1); fits = u.fits.0 };
    again = λ x rest fits. (form (code_of x)).again x rest (fits, refl);
  }

option_again : {A : Type 0} {part : Reading A} {text : A → List ℕ} {Fits : A → Type 0} → IsForm part text Fits → (o : Option A) (rest : List ℕ) → IfSome o Fits → follow ((0, nothing) ∷ (1, made (λ x. Some x) part) ∷ []) unknown (option_code o) (option_body text o ++ rest) ≡ Ok (o, rest)
option_again form None rest fits = refl
option_again form (Some x) rest fits = made_again (λ x. Some x) form x rest fits

pub optional_form : {A : Type 0} {part : Reading A} {text : A → List ℕ} {Fits : A → Type 0} → IsForm part text Fits → IsForm (optional part) (optional_text text) (λ o. IfSome o Fits)
optional_form {A} {part} {text} {Fits} form =
    let rows : Table (Option A) = (0, nothing) ∷ (1, made (λ x. Some x) part) ∷ [] in
    coded_form option_code (option_body text) (λ o. IfSome o Fits) (follow rows unknown)
    (follow_form option_code (option_body text) (λ o. IfSome o Fits) rows unknown (
      (λ bytes o rest are e. subst (λ (z : Option A × List ℕ). Takes (option_body text) (HasCode option_code (option_body text) (λ o. IfSome o Fits) 0) bytes z.0 z.1) (ok_is (None, bytes) (o, rest) e) (record { parts = refl; fits = (tt, refl) })),
      (made_takes (λ x. Some x) form (option_body text) (HasCode option_code (option_body text) (λ o. IfSome o Fits) 1) (λ x fits. (refl, (fits, refl))), tt),
    )
    (unknown_takes option_code (option_body text) (λ o. IfSome o Fits))
    (option_again form))

behind_tag : {A : Type 0} (b : Bool) (r : Result A FormError) (z : A) → cond b r (Err BadTag) ≡ Ok z → (b ≡ true) × (r ≡ Ok z)
behind_tag true r z e = (refl, e)
behind_tag false r z e = absurd cc

pub tagged_form : {A : Type 0} (tag : ℕ) {form : Reading A} {text : A → List ℕ} {Fits : A → Type 0} → IsForm form text Fits → IsForm (tagged tag form) (λ x. tag ∷ text x) Fits
tagged_form {A} tag {form} {text} {Fits} is = record {
  takes = λ bytes x rest are e.
      let p = bind_ok (byte bytes) (λ b. cond (eqb b.0 tag) (form b.1) (Err BadTag)) (x, rest) e in
      let t = byte_form.takes bytes p.0.0 p.0.1 are p.1 in
      let q = behind_tag (eqb p.0.0 tag) (form p.0.1) (x, rest) p.2 in
      let u = is.takes p.0.1 x rest (AreBytes-rest bytes p.0.0 p.0.1 are t) q.1 in
      record { parts = t.parts ∙ ap (λ n. n ∷ p.0.1) (eqb-true p.0.0 tag q.0) ∙ ap (λ (l : List ℕ). tag ∷ l) u.parts; fits = u.fits };
  again = λ x rest fits. rw (eq-eqb tag tag refl) (is.again x rest fits);
}
