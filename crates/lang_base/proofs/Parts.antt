-- The parts that forms are made of are forms, and so is what is made of forms.
use Rattle.std.proofs.Common.{◌≡◌, ℕ, ◌<◌, ◌≤◌, ◌^◌, Bool, true, false, cond, ltb, List, [], ◌∷◌, ◌++◌, length, take, drop, Option, Some, None, Result, Ok, Err, inl, inr, refl, sym, ap, subst, ◌∙◌, append_assoc, arith}
use Rattle.std.specs.Prelude.{◌⊎◌, nat_lt, nat_le}
use Rattle.std.specs.Option.{ok_or}
use Rattle.std.specs.Int.{Width, w16, w32, byte_len, from_be_bytes, to_be_bytes}
use Rattle.std.proofs.lemmas.Bool.{cases_lt, ltb-false, le-ltb, ltb-true, lt-ltb, leb-true, le-leb}
use Rattle.std.proofs.lemmas.List.{take_at, drop_at, take-append-drop, length-append, length-take, get_or-take, get_or_past}
use Rattle.std.proofs.lemmas.Nat.{be_bytes_2, be_bytes_4, from_be_bytes-to_be_bytes_2, from_be_bytes-to_be_bytes_4}
use Rattle.lang_base.specs.declared.errors.FormError.{FormError}
use Rattle.lang_base.specs.declared.errors.FormError.TheVariants.{Short, NotCanonical, TooLarge}
use Rattle.lang_base.specs.Reading.{Reading, ◌>>=◌, byte, number, checked, made, tested, decoded, below, up_to, both}
use Rattle.lang_base.proofs.Forms.{AreBytes, AreBytes-rest, Takes, IsForm, done, ok_is}

-- the value of a step that did not fail
pub bind_ok : {A B : Type 0} (r : Result A FormError) (f : A → Result B FormError) (y : B) → (r >>= f) ≡ Ok y → (x : A) × (r ≡ Ok x) × (f x ≡ Ok y)
bind_ok (Ok x) f y e = (x, refl, e)
bind_ok (Err d) f y e = absurd cc

-- a test that did not fail
pub test_ok : {A : Type 0} (b : Bool) (fault : FormError) (x y : A) → cond b (Ok x) (Err fault) ≡ Ok y → (b ≡ true) × (x ≡ y)
test_ok true fault x y e = (refl, cc)
test_ok false fault x y e = absurd cc

some_is : {B : Type 0} (o : Option B) (y : B) → ok_or o NotCanonical ≡ Ok y → o ≡ Some y
some_is None y e = absurd cc
some_is (Some x) y e = ap (λ z. Some z) (ok_is x y e)

-- which way an if went
pub chosen : {A : Type 0} (b : Bool) (x y z : A) → cond b x y ≡ z → ((b ≡ true) × (x ≡ z)) ⊎ ((b ≡ false) × (y ≡ z))
chosen true x y z e = inl (refl, e)
chosen false x y z e = inr (refl, e)

abbrev pub byte_text : ℕ → List ℕ
byte_text n = n ∷ []

byte_takes : (bytes : List ℕ) (x : ℕ) (rest : List ℕ) → AreBytes bytes → byte bytes ≡ Ok (x, rest) → Takes byte_text (λ n. n < 256) bytes x rest
byte_takes [] x rest are e = absurd cc
byte_takes (b ∷ bytes) x rest are e =
    let one = ok_is (b, bytes) (x, rest) e in
    subst (λ (p : ℕ × List ℕ). Takes byte_text (λ n. n < 256) (b ∷ bytes) p.0 p.1) one (record { parts = refl; fits = are 0 })

pub byte_form : IsForm byte byte_text (λ n. n < 256)
byte_form = record { takes = byte_takes; again = λ x rest fits. refl }

-- what the two ways between numbers and bytes say of each other
pub record IsWide (w : Width) (limit : ℕ) : Type 0 where
  pub len : (n : ℕ) → length (to_be_bytes w n) ≡ byte_len w
  pub back : (bytes : List ℕ) → length bytes ≡ byte_len w → AreBytes bytes → to_be_bytes w (from_be_bytes w bytes) ≡ bytes
  pub again : (n : ℕ) → n < limit → from_be_bytes w (to_be_bytes w n) ≡ n
  pub below : (bytes : List ℕ) → AreBytes bytes → from_be_bytes w bytes < limit

wide16 : IsWide w16 (2 ^ 16)
wide16 = record { len = λ n. refl; back = λ bytes len are. be_bytes_2 bytes _ len are refl; again = λ n lt. from_be_bytes-to_be_bytes_2 n lt; below = λ bytes are. omega (arith, are 0, are 1) }

wide32 : IsWide w32 (2 ^ 32)
wide32 = record { len = λ n. refl; back = λ bytes len are. be_bytes_4 bytes _ len are refl; again = λ n lt. from_be_bytes-to_be_bytes_4 n lt; below = λ bytes are. omega (arith, are 0, are 1, are 2, are 3) }

AreBytes-take : (n : ℕ) (bytes : List ℕ) → AreBytes bytes → AreBytes (take n bytes)
AreBytes-take n bytes are i =
    elim (cases_lt i n) [
      | inl lt ↦ rw (get_or-take n bytes i 0 lt) (are i)
      | inr le ↦ rw (get_or_past (take n bytes) i 0 (omega (arith, length-take n bytes))) (omega arith)
    ]

number_takes : (w : Width) (limit : ℕ) → IsWide w limit → (bytes : List ℕ) (x : ℕ) (rest : List ℕ) → AreBytes bytes → number w bytes ≡ Ok (x, rest) → Takes (to_be_bytes w) (λ n. n < limit) bytes x rest
number_takes w limit wide bytes x rest are e =
    let front = take (byte_len w) bytes in
    let way = chosen (ltb (length bytes) (byte_len w)) (Err Short) (Ok (from_be_bytes w front, drop (byte_len w) bytes)) (done (x, rest)) e in
    elim way [
      | inl short ↦ absurd (let f = short.1 in cc)
      | inr long ↦
          let enough : byte_len w ≤ length bytes = ltb-false _ _ long.0 in
          let are' = AreBytes-take (byte_len w) bytes are in
          let text : to_be_bytes w (from_be_bytes w front) ≡ front = wide.back front (omega (arith, length-take (byte_len w) bytes)) are' in
          let one = ok_is (from_be_bytes w front, drop (byte_len w) bytes) (x, rest) long.1 in
          subst (λ (p : ℕ × List ℕ). Takes (to_be_bytes w) (λ n. n < limit) bytes p.0 p.1) one
          (record { parts = sym (take-append-drop (byte_len w) bytes) ∙ ap (λ (l : List ℕ). l ++ drop (byte_len w) bytes) (sym text); fits = wide.below front are' })
    ]

number_again : (w : Width) (limit : ℕ) → IsWide w limit → (n : ℕ) (rest : List ℕ) → n < limit → number w (to_be_bytes w n ++ rest) ≡ Ok (n, rest)
number_again w limit wide n rest lt =
    let len = wide.len n in
    let long : ltb (length (to_be_bytes w n ++ rest)) (byte_len w) ≡ false = le-ltb _ _ (omega (arith, length-append (to_be_bytes w n) rest)) in
    rw (long, take_at (to_be_bytes w n) rest (byte_len w) len, drop_at (to_be_bytes w n) rest (byte_len w) len, wide.again n lt) refl

pub number16_form : IsForm (number w16) (to_be_bytes w16) (λ n. n < 2 ^ 16)
number16_form = record { takes = number_takes w16 (2 ^ 16) wide16; again = number_again w16 (2 ^ 16) wide16 }

pub number32_form : IsForm (number w32) (to_be_bytes w32) (λ n. n < 2 ^ 32)
number32_form = record { takes = number_takes w32 (2 ^ 32) wide32; again = number_again w32 (2 ^ 32) wide32 }

module _ {A B : Type 0} (check : A → Result B FormError) {part : Reading A} {part_text : A → List ℕ} {PartFits : A → Type 0} (form : IsForm part part_text PartFits) (text : B → List ℕ) (Fits : B → Type 0) (there : (x : A) (y : B) → PartFits x → check x ≡ Ok y → (text y ≡ part_text x) × Fits y) where
  pub checked_takes : (bytes : List ℕ) (y : B) (rest : List ℕ) → AreBytes bytes → checked check part bytes ≡ Ok (y, rest) → Takes text Fits bytes y rest
  checked_takes bytes y rest are e =
      let p = bind_ok (part bytes) (λ x. check x.0 >>= λ z. Ok (z, x.1)) (y, rest) e in
      let t = form.takes bytes p.0.0 p.0.1 are p.1 in
      let q = bind_ok (check p.0.0) (λ z. Ok (z, p.0.1)) (y, rest) p.2 in
      let s = there p.0.0 q.0 t.fits q.1 in
      subst (λ (z : B × List ℕ). Takes text Fits bytes z.0 z.1) (ok_is (q.0, p.0.1) (y, rest) q.2)
      (record { parts = t.parts ∙ ap (λ (l : List ℕ). l ++ p.0.1) (sym s.0); fits = s.1 })

  -- it is a form where each value that fits is made of a part that fits
  pub checked_form : ((y : B) → Fits y → (x : A) × PartFits x × (check x ≡ Ok y)) → IsForm (checked check part) text Fits
  checked_form back = record {
    takes = checked_takes;
    again = λ y rest fits.
        let b = back y fits in
        rw ((there b.0 y b.1 b.2).0, form.again b.0 rest b.1, b.2) refl;
  }

pub made_takes : {A B : Type 0} (make : A → B) {part : Reading A} {part_text : A → List ℕ} {PartFits : A → Type 0} → IsForm part part_text PartFits → (text : B → List ℕ) (Fits : B → Type 0) → ((x : A) → PartFits x → (text (make x) ≡ part_text x) × Fits (make x)) → (bytes : List ℕ) (y : B) (rest : List ℕ) → AreBytes bytes → made make part bytes ≡ Ok (y, rest) → Takes text Fits bytes y rest
made_takes {A} {B} make {part} {part_text} form text Fits there =
    checked_takes (λ x. done (make x)) form text Fits (λ x y fits e. subst (λ z. (text z ≡ part_text x) × Fits z) (ok_is (make x) y e) (there x fits))

pub made_again : {A B : Type 0} (make : A → B) {part : Reading A} {text : A → List ℕ} {Fits : A → Type 0} → IsForm part text Fits → (x : A) (rest : List ℕ) → Fits x → made make part (text x ++ rest) ≡ Ok (make x, rest)
made_again make form x rest fits = rw (form.again x rest fits) refl

pub made_form : {A B : Type 0} (make : A → B) {part : Reading A} {part_text : A → List ℕ} {PartFits : A → Type 0} → IsForm part part_text PartFits → (text : B → List ℕ) (Fits : B → Type 0) → ((x : A) → PartFits x → (text (make x) ≡ part_text x) × Fits (make x)) → ((y : B) → Fits y → (x : A) × PartFits x × (make x ≡ y)) → IsForm (made make part) text Fits
made_form {A} {B} make {part} {part_text} form text Fits there back =
    checked_form (λ x. done (make x)) form text Fits (λ x y fits e. subst (λ z. (text z ≡ part_text x) × Fits z) (ok_is (make x) y e) (there x fits))
    (λ y fits. let b = back y fits in (b.0, b.1, ap (λ z. done z) b.2))

pub tested_form : {A : Type 0} (test : A → Bool) (fault : FormError) {part : Reading A} {text : A → List ℕ} {PartFits : A → Type 0} → IsForm part text PartFits → (Fits : A → Type 0) → ((x : A) → PartFits x → test x ≡ true → Fits x) → ((x : A) → Fits x → PartFits x × (test x ≡ true)) → IsForm (tested test fault part) text Fits
tested_form {A} test fault {part} {text} form Fits passes back =
    checked_form (λ x. cond (test x) (done x) (Err fault)) form text Fits
    (λ x y fits e. let t = test_ok (test x) fault x y e in (ap text (sym t.1), subst Fits t.1 (passes x fits t.0)))
    (λ y fits. let b = back y fits in (y, b.0, ap (λ t. cond t (done y) (Err fault)) b.1))

pub decoded_form : {A B : Type 0} (decode : A → Option B) (code_of : B → A) {part : Reading A} {text : A → List ℕ} {Fits : A → Type 0} → IsForm part text Fits → ((y : B) → decode (code_of y) ≡ Some y) → ((x : A) (y : B) → decode x ≡ Some y → x ≡ code_of y) → IsForm (decoded decode part) (λ y. text (code_of y)) (λ y. Fits (code_of y))
decoded_form decode code_of {part} {text} {Fits} form known only =
    checked_form (λ x. ok_or (decode x) NotCanonical) form (λ y. text (code_of y)) (λ y. Fits (code_of y))
    (λ x y fits e. let is = only x y (some_is (decode x) y e) in (ap text (sym is), subst Fits is fits))
    (λ y fits. (code_of y, fits, ap (λ o. ok_or o NotCanonical) (known y)))

-- the same form, by an equal condition
pub fits_form : {A : Type 0} {part : Reading A} {text : A → List ℕ} {Fits Fits' : A → Type 0} → IsForm part text Fits → ((x : A) → Fits x → Fits' x) → ((x : A) → Fits' x → Fits x) → IsForm part text Fits'
fits_form form to from = record {
  takes = λ bytes x rest are e. let t = form.takes bytes x rest are e in record { parts = t.parts; fits = to x t.fits };
  again = λ x rest fits. form.again x rest (from x fits);
}

-- a number below a bound, and a count up to a limit
pub below_form : {part : Reading ℕ} {text : ℕ → List ℕ} {PartFits : ℕ → Type 0} (bound : ℕ) → IsForm part text PartFits → ((n : ℕ) → n < bound → PartFits n) → IsForm (below bound part) text (λ n. n < bound)
below_form bound form wide = tested_form (λ n. nat_lt n bound) NotCanonical form (λ n. n < bound) (λ n fits passes. ltb-true n bound passes) (λ n lt. (wide n lt, lt-ltb n bound lt))

pub up_to_form : {part : Reading ℕ} {text : ℕ → List ℕ} {PartFits : ℕ → Type 0} (limit : ℕ) → IsForm part text PartFits → ((n : ℕ) → n ≤ limit → PartFits n) → IsForm (up_to limit part) text (λ n. n ≤ limit)
up_to_form limit form wide = tested_form (λ n. nat_le n limit) TooLarge form (λ n. n ≤ limit) (λ n fits passes. leb-true n limit passes) (λ n le. (wide n le, le-leb n limit le))

module _ {A B : Type 0} (first : Reading A) (first_text : A → List ℕ) (FirstFits : A → Type 0) (first_form : IsForm first first_text FirstFits) (second : A → Reading B) (second_text : A → B → List ℕ) (SecondFits : A → B → Type 0) (second_form : (x : A) → FirstFits x → IsForm (second x) (second_text x) (SecondFits x)) where
  abbrev BothText : A × B → List ℕ
  BothText p = first_text p.0 ++ second_text p.0 p.1

  abbrev BothFit : A × B → Type 0
  BothFit p = FirstFits p.0 × SecondFits p.0 p.1

  both_takes : (bytes : List ℕ) (x : A × B) (rest : List ℕ) → AreBytes bytes → both first second bytes ≡ Ok (x, rest) → Takes BothText BothFit bytes x rest
  both_takes bytes x rest are e =
      let p = bind_ok (first bytes) (λ y. second y.0 y.1 >>= λ z. Ok ((y.0, z.0), z.1)) (x, rest) e in
      let a = p.0.0 in
      let behind = p.0.1 in
      let t = first_form.takes bytes a behind are p.1 in
      let q = bind_ok (second a behind) (λ z. Ok ((a, z.0), z.1)) (x, rest) p.2 in
      let u = (second_form a t.fits).takes behind q.0.0 q.0.1 (AreBytes-rest bytes a behind are t) q.1 in
      let one = ok_is ((a, q.0.0), q.0.1) (x, rest) q.2 in
      let parts : bytes ≡ first_text a ++ second_text a q.0.0 ++ q.0.1 = t.parts ∙ ap (λ (l : List ℕ). first_text a ++ l) u.parts ∙ sym (append_assoc (first_text a) (second_text a q.0.0) q.0.1) in
      subst (λ (y : (A × B) × List ℕ). Takes BothText BothFit bytes y.0 y.1) one (record { parts = parts; fits = (t.fits, u.fits) })

  both_again : (x : A × B) (rest : List ℕ) → BothFit x → both first second (BothText x ++ rest) ≡ Ok (x, rest)
  both_again x rest fits =
      let one = first_form.again x.0 (second_text x.0 x.1 ++ rest) fits.0 in
      let two = (second_form x.0 fits.0).again x.1 rest fits.1 in
      rw (append_assoc (first_text x.0) (second_text x.0 x.1) rest, one, two) refl

  pub both_form : IsForm (both first second) BothText BothFit
  both_form = record { takes = both_takes; again = both_again }
