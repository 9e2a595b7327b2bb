-- Readings put together that read what fits and is spelled so, and nothing else: both directions at once.
use Rattle.std.proofs.Common.{◌≡◌, ℕ, zero, suc, Bool, true, false, List, ◌++◌, Ok}
use Rattle.c_syntax.specs.declared.token.Token.{Token}
use Rattle.c_syntax.specs.Parts.{◌⨾◌, Perhaps}
use Rattle.c_syntax.specs.Heights.{IfThere}
use Rattle.c_reader_tokens.specs.Reading.{Reading}
use Rattle.c_reader_productions.specs.Combining.{Mark, ◌▷◌, ◌◁◌, ◌&◌, made, either, missing, there}
use Rattle.c_reader_productions.specs.Parts.{under}
use Rattle.c_reader_productions.proofs.Laws as laws
use Rattle.c_reader_productions.proofs.Laws.{IsMark, IsTaken, IsSound, IsWhole, Any, EndsOption}

-- A reading reads what it should, and whatever it should where this follows.
pub record IsReader {A : Type 0} (reading : Reading A) (Fits : A → Type 0) (Spells Leaves Ends : A → List Token → Type 0) : Type 0 where
  pub takes : (ts : List Token) (x : A) (rest : List Token) → reading ts ≡ Ok (x, rest) → IsTaken Fits Spells Leaves ts x rest
  pub again : (x : A) (xs rest : List Token) → Fits x → Spells x xs → Ends x rest → reading (xs ++ rest) ≡ Ok (x, rest)

sound : {A : Type 0} {reading : Reading A} {F : A → Type 0} {P L E : A → List Token → Type 0} → IsReader reading F P L E → IsSound reading F P L
sound p = record { takes = p.takes }

whole : {A : Type 0} {reading : Reading A} {F : A → Type 0} {P L E : A → List Token → Type 0} → IsReader reading F P L E → IsWhole reading F P E
whole p = record { again = p.again }

reader : {A : Type 0} {reading : Reading A} {F : A → Type 0} {P L E : A → List Token → Type 0} → IsSound reading F P L → IsWhole reading F P E → IsReader reading F P L E
reader p q = record { takes = p.takes; again = q.again }

module _ {A : Type 0} {mark : Mark} {S : List Token → Type 0} {part : Reading A} {F : A → Type 0} {P L E : A → List Token → Type 0} (m : IsMark mark S) (p : IsReader part F P L E) where
  pub after : IsReader (mark ▷ part) F (λ y. S ⨾ P y) L E
  after = reader (laws.after m (sound p)) (laws.after' m (whole p))

module _ {A : Type 0} {mark : Mark} {S : List Token → Type 0} {part : Reading A} {F : A → Type 0} {P L E : A → List Token → Type 0} (p : IsReader part F P L E) (m : IsMark mark S) (ends : (x : A) (ys rest : List Token) → S ys → E x (ys ++ rest)) where
  pub before : IsReader (part ◁ mark) F (λ y. P y ⨾ S) Any Any
  before = reader (laws.before (sound p) m) (laws.before' (whole p) m ends)

module _ {A B : Type 0} {first : Reading A} {F : A → Type 0} {P L E : A → List Token → Type 0} {second : Reading B} {G : B → Type 0} {Q M D : B → List Token → Type 0} (p : IsReader first F P L E) (q : IsReader second G Q M D) (ends : (x : A) (y : B) (ys rest : List Token) → Q y ys → D y rest → E x (ys ++ rest)) where
  pub both : IsReader (first & second) (λ (w : A × B). F w.0 × G w.1) (λ w. P w.0 ⨾ Q w.1) (λ w. M w.1) (λ w. D w.1)
  both = reader (laws.both (sound p) (sound q)) (laws.both' (whole p) (whole q) ends)

-- what was read, as a value made of it
module _ {A B : Type 0} (make : A → B) {part : Reading A} {F : A → Type 0} {P L E : A → List Token → Type 0} (p : IsReader part F P L E) where
  pub made_takes : {G : B → Type 0} {Q M : B → List Token → Type 0} → ((x : A) → F x → G (make x)) → ((x : A) (xs : List Token) → P x xs → Q (make x) xs) → ((x : A) (rest : List Token) → L x rest → M (make x) rest) → (ts : List Token) (y : B) (rest : List Token) → made make part ts ≡ Ok (y, rest) → IsTaken G Q M ts y rest
  made_takes {G} {Q} {M} fits spells leaves ts y rest e = laws.made_takes make (sound p) G Q M fits spells leaves ts y rest e

  pub made_again : (x : A) (xs rest : List Token) → F x → P x xs → E x rest → made make part (xs ++ rest) ≡ Ok (make x, rest)
  made_again x xs rest fits d end = laws.made_again make (whole p) x xs rest fits d end

module _ {A : Type 0} (passes : List Token → Bool) {part : Reading A} {F : A → Type 0} {P L E : A → List Token → Type 0} (p : IsReader part F P L E) where
  -- a part that is missing where a test holds
  pub unless : ((x : A) (xs rest : List Token) → P x xs → passes (xs ++ rest) ≡ false) → IsReader (either passes missing (there part)) (IfThere F) (Perhaps P) Any (EndsOption (λ rest. passes rest ≡ true) E)
  unless apart = reader (laws.unless passes (sound p)) (laws.unless' passes (whole p) apart)

  -- a part that is there only where a test holds
  pub only : ((x : A) (xs rest : List Token) → P x xs → passes (xs ++ rest) ≡ true) → IsReader (either passes (there part) missing) (IfThere F) (Perhaps P) Any (EndsOption (λ rest. passes rest ≡ false) E)
  only begins = reader (laws.only passes (sound p)) (laws.only' passes (whole p) begins)

-- what is one higher than its parts
module _ {A : Type 0} {parts : ℕ → Reading A} {F : ℕ → A → Type 0} (G : ℕ → A → Type 0) {P L E : A → List Token → Type 0} (p : (r : ℕ) → IsReader (parts r) (F r) P L E) (up : (r : ℕ) (x : A) → F r x → G (suc r) x) (down : (r : ℕ) (x : A) → G (suc r) x → F r x) (none : (x : A) → G zero x → ⊥) where
  pub under_law : (fuel : ℕ) → IsReader (under parts fuel) (G fuel) P L E
  under_law fuel = record {
    takes = laws.under_takes G (λ r. sound (p r)) up fuel;
    again = laws.under_again G (λ r. whole (p r)) down none fuel;
  }
