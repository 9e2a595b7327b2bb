-- Forms: what is read is spelled so, and what is spelled so is read.
use Rattle.std.proofs.Common.{◌≡◌, ℕ, ◌+◌, ◌-◌, ◌<◌, ◌≤◌, List, ◌++◌, length, get_or, take, Result, Ok, Err, sym, ap, subst, ◌∙◌, arith}
use Rattle.std.proofs.lemmas.List.{get_or-append-add, length-append, take_at}
use Rattle.lang_base.specs.declared.errors.FormError.{FormError}
use Rattle.lang_base.specs.Reading.{Reading}

-- each number is a byte
abbrev pub AreBytes : List ℕ → Type 0
AreBytes bytes = (i : ℕ) → get_or bytes i 0 < 256

-- the bytes are the text of a value that fits, and the rest
pub record Takes {A : Type 0} (text : A → List ℕ) (Fits : A → Type 0) (bytes : List ℕ) (x : A) (rest : List ℕ) : Type 0 where
  pub parts : bytes ≡ text x ++ rest
  pub fits : Fits x

-- a reading, and what it reads: the texts of the values that fit
pub record IsForm {A : Type 0} (reading : Reading A) (text : A → List ℕ) (Fits : A → Type 0) : Type 0 where
  pub takes : (bytes : List ℕ) (x : A) (rest : List ℕ) → AreBytes bytes → reading bytes ≡ Ok (x, rest) → Takes text Fits bytes x rest
  pub again : (x : A) (rest : List ℕ) → Fits x → reading (text x ++ rest) ≡ Ok (x, rest)

abbrev pub done : {A : Type 0} → A → Result A FormError
done x = Ok x

pub ok_is : {A : Type 0} (x y : A) → done x ≡ done y → x ≡ y
ok_is x y e = cc

-- no text is a beginning of another, and no two values share one
pub one_text : {A : Type 0} {reading : Reading A} {text : A → List ℕ} {Fits : A → Type 0} → IsForm reading text Fits → (x y : A) (u v : List ℕ) → Fits x → Fits y → text x ++ u ≡ text y ++ v → (x ≡ y) × (u ≡ v)
one_text {A} {reading} form x y u v fits fits' e =
    let one : (x, u) ≡ (y, v) = ok_is (x, u) (y, v) (sym (form.again x u fits) ∙ ap reading e ∙ form.again y v fits') in
    (ap (λ (p : A × List ℕ). p.0) one, ap (λ (p : A × List ℕ). p.1) one)

-- where there is a fault, no front is a text
pub no_text : {A : Type 0} {reading : Reading A} {text : A → List ℕ} {Fits : A → Type 0} → IsForm reading text Fits → (bytes : List ℕ) (fault : FormError) → reading bytes ≡ Err fault → (x : A) (rest : List ℕ) → Fits x → bytes ≡ text x ++ rest → ⊥
no_text {reading} form bytes fault e x rest fits parts =
    let read = sym e ∙ ap reading parts ∙ form.again x rest fits in absurd cc

-- where a value is read, its text is the front, of so many bytes
pub front_is : {A : Type 0} {reading : Reading A} {text : A → List ℕ} {Fits : A → Type 0} → IsForm reading text Fits → (bytes : List ℕ) (x : A) (rest : List ℕ) → AreBytes bytes → reading bytes ≡ Ok (x, rest) → (length rest ≤ length bytes) × (take (length bytes - length rest) bytes ≡ text x) × Fits x
front_is {text = text} form bytes x rest are e =
    let t = form.takes bytes x rest are e in
    let len : length bytes ≡ length (text x) + length rest = ap length t.parts ∙ length-append (text x) rest in
    let first : take (length bytes - length rest) (text x ++ rest) ≡ text x = take_at (text x) rest _ (omega arith) in
    (omega arith, ap (take (length bytes - length rest)) t.parts ∙ first, t.fits)

-- what is behind a text
pub AreBytes-rest : {A : Type 0} {text : A → List ℕ} {Fits : A → Type 0} (bytes : List ℕ) (x : A) (rest : List ℕ) → AreBytes bytes → Takes text Fits bytes x rest → AreBytes rest
AreBytes-rest {text = text} bytes x rest are t i =
    let at : get_or bytes (length (text x) + i) 0 ≡ get_or rest i 0 = ap (λ l. get_or l (length (text x) + i) 0) t.parts ∙ get_or-append-add (text x) rest i 0 in
    subst (λ n. n < 256) at (are (length (text x) + i))
