-- What is read is spelled so, what is spelled so is read, and more fuel reads the same: of readings that are
-- put together.
use Rattle.std.proofs.Common.{◌≡◌, ℕ, zero, suc, ◌≤◌, Bool, true, false, cond, List, [], ◌∷◌, ◌++◌, length, Option, Some, None, Result, Ok, Err, inl, inr, refl, sym, ap, subst, ◌∙◌, append_assoc, arith}
use Rattle.std.specs.Prelude.{◌⊎◌}
use Rattle.c_syntax.specs.declared.token.Token.{Token}
use Rattle.c_syntax.specs.Parts.{◌⨾◌, Nothing, Perhaps}
use Rattle.c_syntax.specs.Heights.{IfThere}
use Rattle.c_reader_tokens.specs.declared.fault.Fault.{Fault}
use Rattle.c_reader_tokens.specs.Reading.{Reading, ◌>>=◌, Takes, IsSameOrTooDeep}
use Rattle.c_reader_tokens.proofs.Laws.{done, ok_is, bind_ok, takes_then, parts_behind}
use Rattle.c_reader_productions.specs.Combining.{Mark, ◌▷◌, ◌◁◌, marks, ◌&◌, made, either, missing, there, repeated, each}
use Rattle.c_reader_productions.specs.Parts.{less, under}

pub bind_is : {A B : Type 0} (r : Result A Fault) (f : A → Result B Fault) (x : A) → r ≡ Ok x → (r >>= f) ≡ f x
bind_is r f x e = ap (λ z. z >>= f) e

-- which way an if went
pub chosen : {A : Type 0} (b : Bool) (x y z : A) → cond b x y ≡ z → ((b ≡ true) × (x ≡ z)) ⊎ ((b ≡ false) × (y ≡ z))
chosen true x y z e = inl (refl, e)
chosen false x y z e = inr (refl, e)

pub record IsMark (mark : Mark) (Spelled : List Token → Type 0) : Type 0 where
  pub takes : (ts rest : List Token) → mark ts ≡ Ok rest → Takes Spelled ts rest
  pub again : (xs rest : List Token) → Spelled xs → mark (xs ++ rest) ≡ Ok rest

module _ {mark more : Mark} {S U : List Token → Type 0} (m : IsMark mark S) (n : IsMark more U) where
  marks_takes : (ts rest : List Token) → marks mark more ts ≡ Ok rest → Takes (S ⨾ U) ts rest
  marks_takes ts rest e =
      let b = bind_ok (mark ts) more rest e in
      takes_then (m.takes ts b.0 b.1) (n.takes b.0 rest b.2)

  marks_again : (xs rest : List Token) → (S ⨾ U) xs → marks mark more (xs ++ rest) ≡ Ok rest
  marks_again xs rest d =
      ap (marks mark more) (parts_behind xs d.0 d.1 rest d.4) ∙ bind_is (mark (d.0 ++ (d.1 ++ rest))) more (d.1 ++ rest) (m.again d.0 (d.1 ++ rest) d.2) ∙ n.again d.1 rest d.3

  -- two marks behind one another
  pub both_marks : IsMark (marks mark more) (S ⨾ U)
  both_marks = record { takes = marks_takes; again = marks_again }

-- what was read of these tokens: a value that fits, spelled by the front, and the rest, of which this is known
pub record IsTaken {A : Type 0} (Fits : A → Type 0) (Spells Leaves : A → List Token → Type 0) (ts : List Token) (x : A) (rest : List Token) : Type 0 where
  pub fits : Fits x
  pub leaves : Leaves x rest
  pub front : List Token
  pub spelled : Spells x front
  pub parts : ts ≡ front ++ rest

-- What a reading reads is spelled so.
pub record IsSound {A : Type 0} (reading : Reading A) (Fits : A → Type 0) (Spells Leaves : A → List Token → Type 0) : Type 0 where
  pub takes : (ts : List Token) (x : A) (rest : List Token) → reading ts ≡ Ok (x, rest) → IsTaken Fits Spells Leaves ts x rest

-- A reading reads whatever fits and is spelled so, where this follows.
pub record IsWhole {A : Type 0} (reading : Reading A) (Fits : A → Type 0) (Spells Ends : A → List Token → Type 0) : Type 0 where
  pub again : (x : A) (xs rest : List Token) → Fits x → Spells x xs → Ends x rest → reading (xs ++ rest) ≡ Ok (x, rest)

-- nothing is known of the rest, and anything may follow
abbrev pub Any : {A : Type 0} → A → List Token → Type 0
Any x rest = Unit {0}

-- anything fits
abbrev pub Whatever : {A : Type 0} → A → Type 0
Whatever x = Unit {0}

module _ {A : Type 0} {mark : Mark} {S : List Token → Type 0} {part : Reading A} {F : A → Type 0} {P L : A → List Token → Type 0} (m : IsMark mark S) (p : IsSound part F P L) where
  after_takes : (ts : List Token) (x : A) (rest : List Token) → (mark ▷ part) ts ≡ Ok (x, rest) → IsTaken F (λ y. S ⨾ P y) L ts x rest
  after_takes ts x rest e =
      let b = bind_ok (mark ts) part (x, rest) e in
      let t = m.takes ts b.0 b.1 in
      let u = p.takes b.0 x rest b.2 in
      record {
        fits = u.fits;
        leaves = u.leaves;
        front = t.front ++ u.front;
        spelled = (t.front, u.front, t.spelled, u.spelled, refl);
        parts = t.parts ∙ ap (λ (l : List Token). t.front ++ l) u.parts ∙ sym (append_assoc t.front u.front rest);
      }

  pub after : IsSound (mark ▷ part) F (λ y. S ⨾ P y) L
  after = record { takes = after_takes }

module _ {A : Type 0} {mark : Mark} {S : List Token → Type 0} {part : Reading A} {F : A → Type 0} {P E : A → List Token → Type 0} (m : IsMark mark S) (p : IsWhole part F P E) where
  after_again : (x : A) (xs rest : List Token) → F x → (S ⨾ P x) xs → E x rest → (mark ▷ part) (xs ++ rest) ≡ Ok (x, rest)
  after_again x xs rest fits d ends =
      ap (mark ▷ part) (parts_behind xs d.0 d.1 rest d.4) ∙ bind_is (mark (d.0 ++ (d.1 ++ rest))) part (d.1 ++ rest) (m.again d.0 (d.1 ++ rest) d.2) ∙ p.again x d.1 rest fits d.3 ends

  pub after' : IsWhole (mark ▷ part) F (λ y. S ⨾ P y) E
  after' = record { again = after_again }

module _ {A : Type 0} {mark : Mark} {S : List Token → Type 0} {part : Reading A} {F : A → Type 0} {P L : A → List Token → Type 0} (p : IsSound part F P L) (m : IsMark mark S) where
  before_takes : (ts : List Token) (x : A) (rest : List Token) → (part ◁ mark) ts ≡ Ok (x, rest) → IsTaken F (λ y. P y ⨾ S) Any ts x rest
  before_takes ts x rest e =
      let b = bind_ok (part ts) (λ y. mark y.1 >>= λ r. Ok (y.0, r)) (x, rest) e in
      let c = bind_ok (mark b.0.1) (λ r. Ok (b.0.0, r)) (x, rest) b.2 in
      let t = p.takes ts b.0.0 b.0.1 b.1 in
      let u = m.takes b.0.1 c.0 c.1 in
      subst (λ (z : A × List Token). IsTaken F (λ y. P y ⨾ S) Any ts z.0 z.1) (ok_is (b.0.0, c.0) (x, rest) c.2)
      (record {
        fits = t.fits;
        leaves = tt;
        front = t.front ++ u.front;
        spelled = (t.front, u.front, t.spelled, u.spelled, refl);
        parts = t.parts ∙ ap (λ (l : List Token). t.front ++ l) u.parts ∙ sym (append_assoc t.front u.front c.0);
      })

  pub before : IsSound (part ◁ mark) F (λ y. P y ⨾ S) Any
  before = record { takes = before_takes }

module _ {A : Type 0} {mark : Mark} {S : List Token → Type 0} {part : Reading A} {F : A → Type 0} {P E : A → List Token → Type 0} (p : IsWhole part F P E) (m : IsMark mark S) (ends : (x : A) (ys rest : List Token) → S ys → E x (ys ++ rest)) where
  before_again : (x : A) (xs rest : List Token) → F x → (P x ⨾ S) xs → Any x rest → (part ◁ mark) (xs ++ rest) ≡ Ok (x, rest)
  before_again x xs rest fits d any =
      ap (part ◁ mark) (parts_behind xs d.0 d.1 rest d.4)
      ∙ bind_is (part (d.0 ++ (d.1 ++ rest))) (λ y. mark y.1 >>= λ r. Ok (y.0, r)) (x, d.1 ++ rest) (p.again x d.0 (d.1 ++ rest) fits d.2 (ends x d.1 rest d.3))
      ∙ bind_is (mark (d.1 ++ rest)) (λ r. Ok (x, r)) rest (m.again d.1 rest d.3)

  pub before' : IsWhole (part ◁ mark) F (λ y. P y ⨾ S) Any
  before' = record { again = before_again }

module _ {A B : Type 0} {first : Reading A} {F : A → Type 0} {P L : A → List Token → Type 0} {second : Reading B} {G : B → Type 0} {Q M : B → List Token → Type 0} (p : IsSound first F P L) (q : IsSound second G Q M) where
  both_takes : (ts : List Token) (v : A × B) (rest : List Token) → (first & second) ts ≡ Ok (v, rest) → IsTaken (λ (w : A × B). F w.0 × G w.1) (λ w. P w.0 ⨾ Q w.1) (λ w. M w.1) ts v rest
  both_takes ts v rest e =
      let b = bind_ok (first ts) (λ x. second x.1 >>= λ y. Ok ((x.0, y.0), y.1)) (v, rest) e in
      let c = bind_ok (second b.0.1) (λ y. Ok ((b.0.0, y.0), y.1)) (v, rest) b.2 in
      let t = p.takes ts b.0.0 b.0.1 b.1 in
      let u = q.takes b.0.1 c.0.0 c.0.1 c.1 in
      subst (λ (z : (A × B) × List Token). IsTaken (λ (w : A × B). F w.0 × G w.1) (λ w. P w.0 ⨾ Q w.1) (λ w. M w.1) ts z.0 z.1) (ok_is ((b.0.0, c.0.0), c.0.1) (v, rest) c.2)
      (record {
        fits = (t.fits, u.fits);
        leaves = u.leaves;
        front = t.front ++ u.front;
        spelled = (t.front, u.front, t.spelled, u.spelled, refl);
        parts = t.parts ∙ ap (λ (l : List Token). t.front ++ l) u.parts ∙ sym (append_assoc t.front u.front c.0.1);
      })

  pub both : IsSound (first & second) (λ (w : A × B). F w.0 × G w.1) (λ w. P w.0 ⨾ Q w.1) (λ w. M w.1)
  both = record { takes = both_takes }

module _ {A B : Type 0} {first : Reading A} {F : A → Type 0} {P E : A → List Token → Type 0} {second : Reading B} {G : B → Type 0} {Q D : B → List Token → Type 0} (p : IsWhole first F P E) (q : IsWhole second G Q D) (ends : (x : A) (y : B) (ys rest : List Token) → Q y ys → D y rest → E x (ys ++ rest)) where
  both_again : (v : A × B) (xs rest : List Token) → F v.0 × G v.1 → (P v.0 ⨾ Q v.1) xs → D v.1 rest → (first & second) (xs ++ rest) ≡ Ok (v, rest)
  both_again v xs rest fits d end =
      ap (first & second) (parts_behind xs d.0 d.1 rest d.4)
      ∙ bind_is (first (d.0 ++ (d.1 ++ rest))) (λ x. second x.1 >>= λ y. Ok ((x.0, y.0), y.1)) (v.0, d.1 ++ rest) (p.again v.0 d.0 (d.1 ++ rest) fits.0 d.2 (ends v.0 v.1 d.1 rest d.3 end))
      ∙ bind_is (second (d.1 ++ rest)) (λ y. Ok ((v.0, y.0), y.1)) (v.1, rest) (q.again v.1 d.1 rest fits.1 d.3 end)

  pub both' : IsWhole (first & second) (λ (w : A × B). F w.0 × G w.1) (λ w. P w.0 ⨾ Q w.1) (λ w. D w.1)
  both' = record { again = both_again }

-- what was read, as a value made of it
pub made_takes : {A B : Type 0} (make : A → B) {part : Reading A} {F : A → Type 0} {P L : A → List Token → Type 0} → IsSound part F P L → (G : B → Type 0) (Q M : B → List Token → Type 0) → ((x : A) → F x → G (make x)) → ((x : A) (xs : List Token) → P x xs → Q (make x) xs) → ((x : A) (rest : List Token) → L x rest → M (make x) rest) → (ts : List Token) (y : B) (rest : List Token) → made make part ts ≡ Ok (y, rest) → IsTaken G Q M ts y rest
made_takes {A} {B} make {part} p G Q M fits spells leaves ts y rest e =
    let b = bind_ok (part ts) (λ x. Ok (make x.0, x.1)) (y, rest) e in
    let t = p.takes ts b.0.0 b.0.1 b.1 in
    subst (λ (z : B × List Token). IsTaken G Q M ts z.0 z.1) (ok_is (make b.0.0, b.0.1) (y, rest) b.2)
    (record {
      fits = fits b.0.0 t.fits;
      leaves = leaves b.0.0 b.0.1 t.leaves;
      front = t.front;
      spelled = spells b.0.0 t.front t.spelled;
      parts = t.parts;
    })

pub made_again : {A B : Type 0} (make : A → B) {part : Reading A} {F : A → Type 0} {P E : A → List Token → Type 0} → IsWhole part F P E → (x : A) (xs rest : List Token) → F x → P x xs → E x rest → made make part (xs ++ rest) ≡ Ok (make x, rest)
made_again make {part} p x xs rest fits d end = bind_is (part (xs ++ rest)) (λ y. Ok (make y.0, y.1)) (x, rest) (p.again x xs rest fits d end)

-- One of two parts was read.
pub either_takes : {A : Type 0} {F : A → Type 0} {P L : A → List Token → Type 0} (passes : List Token → Bool) (part other : Reading A) → ((ts : List Token) (x : A) (rest : List Token) → passes ts ≡ true → part ts ≡ Ok (x, rest) → IsTaken F P L ts x rest) → ((ts : List Token) (x : A) (rest : List Token) → passes ts ≡ false → other ts ≡ Ok (x, rest) → IsTaken F P L ts x rest) → (ts : List Token) (x : A) (rest : List Token) → either passes part other ts ≡ Ok (x, rest) → IsTaken F P L ts x rest
either_takes passes part other p q ts x rest e =
    elim (chosen (passes ts) (part ts) (other ts) (Ok (x, rest)) e) [ inl h ↦ p ts x rest h.0 h.1 | inr h ↦ q ts x rest h.0 h.1 ]

pub either_first : {A : Type 0} (passes : List Token → Bool) (part other : Reading A) (ts : List Token) → passes ts ≡ true → either passes part other ts ≡ part ts
either_first passes part other ts e = ap (λ b. cond b (part ts) (other ts)) e

pub either_second : {A : Type 0} (passes : List Token → Bool) (part other : Reading A) (ts : List Token) → passes ts ≡ false → either passes part other ts ≡ other ts
either_second passes part other ts e = ap (λ b. cond b (part ts) (other ts)) e

abbrev pub EndsOption : {A : Type 0} → (List Token → Type 0) → (A → List Token → Type 0) → Option A → List Token → Type 0
EndsOption Missing E None rest = Missing rest
EndsOption Missing E (Some x) rest = E x rest

abbrev pub Passes : (List Token → Bool) → Bool → List Token → Type 0
Passes passes b rest = passes rest ≡ b

missing_taken : {A : Type 0} {F : A → Type 0} {P : A → List Token → Type 0} (ts : List Token) (o : Option A) (rest : List Token) → missing ts ≡ Ok (o, rest) → IsTaken (IfThere F) (Perhaps P) Any ts o rest
missing_taken {A} {F} {P} ts o rest e =
    subst (λ (z : Option A × List Token). IsTaken (IfThere F) (Perhaps P) Any ts z.0 z.1) (ok_is (None, ts) (o, rest) e)
    (record { fits = tt; leaves = tt; front = []; spelled = refl; parts = refl })

module _ {A : Type 0} (passes : List Token → Bool) {part : Reading A} {F : A → Type 0} {P L : A → List Token → Type 0} (p : IsSound part F P L) where
  there_taken : (ts : List Token) (o : Option A) (rest : List Token) → there part ts ≡ Ok (o, rest) → IsTaken (IfThere F) (Perhaps P) Any ts o rest
  there_taken = made_takes (λ x. Some x) p (IfThere F) (Perhaps P) Any (λ x f. f) (λ x xs d. d) (λ x rest l. tt)

  -- a part that is missing where a test holds
  pub unless : IsSound (either passes missing (there part)) (IfThere F) (Perhaps P) Any
  unless = record { takes = either_takes passes missing (there part) (λ ts o rest h. missing_taken ts o rest) (λ ts o rest h. there_taken ts o rest) }

  -- a part that is there only where a test holds
  pub only : IsSound (either passes (there part) missing) (IfThere F) (Perhaps P) Any
  only = record { takes = either_takes passes (there part) missing (λ ts o rest h. there_taken ts o rest) (λ ts o rest h. missing_taken ts o rest) }

module _ {A : Type 0} (passes : List Token → Bool) {part : Reading A} {F : A → Type 0} {P E : A → List Token → Type 0} (p : IsWhole part F P E) where
  unless_again : ((x : A) (xs rest : List Token) → P x xs → passes (xs ++ rest) ≡ false) → (o : Option A) (xs rest : List Token) → IfThere F o → Perhaps P o xs → EndsOption (Passes passes true) E o rest → either passes missing (there part) (xs ++ rest) ≡ Ok (o, rest)
  unless_again apart None xs rest fits d end =
      ap (λ (l : List Token). either passes missing (there part) (l ++ rest)) d ∙ either_first passes missing (there part) rest end
  unless_again apart (Some x) xs rest fits d end =
      either_second passes missing (there part) (xs ++ rest) (apart x xs rest d) ∙ made_again (λ y. Some y) p x xs rest fits d end

  pub unless' : ((x : A) (xs rest : List Token) → P x xs → passes (xs ++ rest) ≡ false) → IsWhole (either passes missing (there part)) (IfThere F) (Perhaps P) (EndsOption (Passes passes true) E)
  unless' apart = record { again = unless_again apart }

  only_again : ((x : A) (xs rest : List Token) → P x xs → passes (xs ++ rest) ≡ true) → (o : Option A) (xs rest : List Token) → IfThere F o → Perhaps P o xs → EndsOption (Passes passes false) E o rest → either passes (there part) missing (xs ++ rest) ≡ Ok (o, rest)
  only_again begins None xs rest fits d end =
      ap (λ (l : List Token). either passes (there part) missing (l ++ rest)) d ∙ either_second passes (there part) missing rest end
  only_again begins (Some x) xs rest fits d end =
      either_first passes (there part) missing (xs ++ rest) (begins x xs rest d) ∙ made_again (λ y. Some y) p x xs rest fits d end

  pub only' : ((x : A) (xs rest : List Token) → P x xs → passes (xs ++ rest) ≡ true) → IsWhole (either passes (there part) missing) (IfThere F) (Perhaps P) (EndsOption (Passes passes false) E)
  only' begins = record { again = only_again begins }

-- what is one higher than its parts
module _ {A : Type 0} {parts : ℕ → Reading A} {F : ℕ → A → Type 0} (G : ℕ → A → Type 0) {P L : A → List Token → Type 0} (p : (r : ℕ) → IsSound (parts r) (F r) P L) (up : (r : ℕ) (x : A) → F r x → G (suc r) x) where
  pub under_takes : (fuel : ℕ) (ts : List Token) (x : A) (rest : List Token) → under parts fuel ts ≡ Ok (x, rest) → IsTaken (G fuel) P L ts x rest
  unfolding less
  under_takes zero ts x rest e = absurd cc
  under_takes (suc r) ts x rest e =
      let t = (p r).takes ts x rest e in record { fits = up r x t.fits; leaves = t.leaves; front = t.front; spelled = t.spelled; parts = t.parts }

module _ {A : Type 0} {parts : ℕ → Reading A} {F : ℕ → A → Type 0} (G : ℕ → A → Type 0) {P E : A → List Token → Type 0} (p : (r : ℕ) → IsWhole (parts r) (F r) P E) (down : (r : ℕ) (x : A) → G (suc r) x → F r x) (none : (x : A) → G zero x → ⊥) where
  pub under_again : (fuel : ℕ) (x : A) (xs rest : List Token) → G fuel x → P x xs → E x rest → under parts fuel (xs ++ rest) ≡ Ok (x, rest)
  unfolding less
  under_again zero x xs rest fits d end = absurd (none x fits)
  under_again (suc r) x xs rest fits d end = (p r).again x xs rest (down r x fits) d end

-- parts one behind another
abbrev pub Each : {A : Type 0} → (A → List Token → Type 0) → List A → List Token → Type 0
Each P [] = Nothing
Each P (x ∷ xs) = P x ⨾ Each P xs

abbrev pub AllFit : {A : Type 0} → (A → Type 0) → List A → Type 0
AllFit F [] = Unit {0}
AllFit F (x ∷ xs) = F x × AllFit F xs

none_taken : {A : Type 0} {F : A → Type 0} {P : A → List Token → Type 0} (ts : List Token) (all : List A) (rest : List Token) → done {A = List A × List Token} ([], ts) ≡ done (all, rest) → IsTaken (AllFit F) (Each P) Any ts all rest
none_taken {A} {F} {P} ts all rest e =
    subst (λ (z : List A × List Token). IsTaken (AllFit F) (Each P) Any ts z.0 z.1) (ok_is ([], ts) (all, rest) e)
    (record { fits = tt; leaves = tt; front = []; spelled = refl; parts = refl })

module _ {A : Type 0} (goes : List Token → Bool) {part : Reading A} {F : A → Type 0} {P L : A → List Token → Type 0} (p : IsSound part F P L) where
  pub repeated_takes : (limit : ℕ) (ts : List Token) (all : List A) (rest : List Token) → repeated goes part limit ts ≡ Ok (all, rest) → IsTaken (AllFit F) (Each P) Any ts all rest
  unfolding repeated
  repeated_takes zero ts all rest e = none_taken ts all rest e
  repeated_takes (suc limit) ts all rest e =
      either_takes goes (made (λ v. v.0 ∷ v.1) (part & repeated goes part limit)) (λ l. Ok ([], l))
      (λ us some r h f. made_takes (λ v. v.0 ∷ v.1) (both p (record { takes = repeated_takes limit })) (AllFit F) (Each P) Any (λ v f. f) (λ v xs d. d) (λ v r l. tt) us some r f)
      (λ us some r h f. none_taken us some r f)
      ts all rest e

  pub each_sound : IsSound (each goes part) (AllFit F) (Each P) Any
  each_sound = record { takes = λ ts all rest e. repeated_takes (length ts) ts all rest e }

-- With more fuel the same is read.
abbrev pub Keeps : {A : Type 0} → Reading A → Reading A → Type 0
Keeps reading more = (ts : List Token) → IsSameOrTooDeep (reading ts) (more ts)

pub keeps_same : {A : Type 0} (reading : Reading A) → Keeps reading reading
keeps_same reading ts = inr refl

stays_same : {A B : Type 0} (r : Result A Fault) (f g : A → Result B Fault) → ((x : A) → IsSameOrTooDeep (f x) (g x)) → IsSameOrTooDeep (r >>= f) (r >>= g)
stays_same (Ok x) f g h = h x
stays_same (Err e) f g h = inr refl

pub stays_bind : {A B : Type 0} (r s : Result A Fault) (f g : A → Result B Fault) → IsSameOrTooDeep r s → ((x : A) → IsSameOrTooDeep (f x) (g x)) → IsSameOrTooDeep (r >>= f) (s >>= g)
stays_bind r s f g k h =
    elim k [
      | inl e ↦ inl (ap (λ z. z >>= f) e)
      | inr e ↦ subst (λ z. IsSameOrTooDeep (r >>= f) (z >>= g)) e (stays_same r f g h)
    ]

pub keeps_after : {A : Type 0} (mark : Mark) {part more : Reading A} → Keeps part more → Keeps (mark ▷ part) (mark ▷ more)
keeps_after mark {part} {more} k ts = stays_same (mark ts) part more k

pub keeps_before : {A : Type 0} {part more : Reading A} (mark : Mark) → Keeps part more → Keeps (part ◁ mark) (more ◁ mark)
keeps_before {A} {part} {more} mark k ts =
    stays_bind (part ts) (more ts) (λ x. mark x.1 >>= λ rest. Ok (x.0, rest)) (λ x. mark x.1 >>= λ rest. Ok (x.0, rest)) (k ts) (λ x. inr refl)

pub keeps_both : {A B : Type 0} {first first' : Reading A} {second second' : Reading B} → Keeps first first' → Keeps second second' → Keeps (first & second) (first' & second')
keeps_both {A} {B} {first} {first'} {second} {second'} k h ts =
    stays_bind (first ts) (first' ts) (λ x. second x.1 >>= λ y. Ok ((x.0, y.0), y.1)) (λ x. second' x.1 >>= λ y. Ok ((x.0, y.0), y.1)) (k ts)
    (λ x. stays_bind (second x.1) (second' x.1) (λ y. Ok ((x.0, y.0), y.1)) (λ y. Ok ((x.0, y.0), y.1)) (h x.1) (λ y. inr refl))

pub keeps_made : {A B : Type 0} (make : A → B) {part more : Reading A} → Keeps part more → Keeps (made make part) (made make more)
keeps_made make {part} {more} k ts = stays_bind (part ts) (more ts) (λ x. Ok (make x.0, x.1)) (λ x. Ok (make x.0, x.1)) (k ts) (λ x. inr refl)

stays_cond : {A : Type 0} (b : Bool) {x y z w : Result A Fault} → IsSameOrTooDeep x z → IsSameOrTooDeep y w → IsSameOrTooDeep (cond b x y) (cond b z w)
stays_cond true k h = k
stays_cond false k h = h

pub keeps_either : {A : Type 0} (passes : List Token → Bool) {part part' other other' : Reading A} → Keeps part part' → Keeps other other' → Keeps (either passes part other) (either passes part' other')
keeps_either passes k h ts = stays_cond (passes ts) (k ts) (h ts)

pub keeps_under : {A : Type 0} (parts : ℕ → Reading A) → ((r s : ℕ) → r ≤ s → Keeps (parts r) (parts s)) → (fuel more : ℕ) → fuel ≤ more → Keeps (under parts fuel) (under parts more)
unfolding less
keeps_under parts k zero more le ts = inl refl
keeps_under parts k (suc r) zero le ts = absurd (omega arith)
keeps_under parts k (suc r) (suc s) le ts = k r s (omega arith) ts
