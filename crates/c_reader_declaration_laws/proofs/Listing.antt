-- What is read and spelled where parts have a comma between each two.
use Rattle.std.proofs.Common.{◌≡◌, ◌≤◌, true, false, List, [], ◌∷◌, ◌++◌, length, Ok, refl, sym, ap, subst, ◌∙◌, append_assoc, append-nil, arith}
use Rattle.std.proofs.lemmas.List.{length-append}
use Rattle.std.specs.List.{AllByRecursion}
use Rattle.c_syntax.specs.declared.token.Token.{Token}
use Rattle.c_syntax.specs.declared.punctuator.Punctuator.TheVariants.{Comma}
use Rattle.c_syntax.specs.Parts.{◌⨾◌, Commas, Sign}
use Rattle.c_reader_tokens.specs.Reading.{Reading, ◌>>=◌}
use Rattle.c_reader_tokens.specs.Peeking.{is_sign_next}
use Rattle.c_reader_tokens.specs.Tokens.{sign}
use Rattle.c_reader_tokens.proofs.Tokens.{sign_takes, sign_again, is_sign_next-again}
use Rattle.c_reader_productions.specs.Combining.{◌▷◌, ◌&◌, repeated, each, commas}
use Rattle.c_reader_productions.proofs.Combining.{IsReader, after}
use Rattle.c_reader_tokens.proofs.Laws.{ok_is, bind_ok}
use Rattle.c_reader_productions.proofs.Laws.{IsMark, IsTaken, Any, Keeps, keeps_made, keeps_both, keeps_after}
use Rattle.c_reader_declaration_laws.proofs.Repeating.{Many, Repeats, repeated_takes, repeated_again, keeps_each}

-- at least one, and commas
abbrev pub Listed : {A : Type 0} → (A → List Token → Type 0) → List A → List Token → Type 0
Listed P [] ts = ⊥
Listed P (x ∷ xs) ts = Commas P (x ∷ xs) ts

pub comma_mark : IsMark (sign Comma) (Sign Comma)
comma_mark = record { takes = sign_takes Comma; again = sign_again Comma }

-- parts that have a comma before them
abbrev pub Next : {A : Type 0} → (A → List Token → Type 0) → A → List Token → Type 0
Next P y = Sign Comma ⨾ P y

pub to_commas : {A : Type 0} (P : A → List Token → Type 0) (x : A) (xs : List A) (us vs : List Token) → P x us → Many (Next P) xs vs → Commas P (x ∷ xs) (us ++ vs)
to_commas P x [] us vs s m = subst (λ (l : List Token). P x l) (sym (ap (λ (l : List Token). us ++ l) m ∙ append-nil us)) s
to_commas P x (y ∷ ys) us vs s m =
    let n = m.2 in
    (us, vs, s, (n.0, n.1 ++ m.1, n.2, to_commas P y ys n.1 m.1 n.3 m.3, m.4 ∙ ap (λ (l : List Token). l ++ m.1) n.4 ∙ append_assoc n.0 n.1 m.1), refl)

pub from_commas : {A : Type 0} (P : A → List Token → Type 0) (x : A) (xs : List A) (ts : List Token) → Commas P (x ∷ xs) ts → (P x ⨾ Many (Next P) xs) ts
from_commas P x [] ts s = (ts, [], s, refl, sym (append-nil ts))
from_commas P x (y ∷ ys) ts s =
    let c = s.3 in
    let m = from_commas P y ys c.1 c.3 in
    (s.0, s.1, s.2, (c.0 ++ m.0, m.1, (c.0, m.0, c.2, m.2, refl), m.3, c.4 ∙ ap (λ (l : List Token). c.0 ++ l) m.4 ∙ sym (append_assoc c.0 m.0 m.1)), s.4)

no_sign : {A : Type 0} (P : A → List Token → Type 0) (x : A) → Next P x [] → ⊥
no_sign P x ([], ys, s, t, e) = let f = s.2 in cc
no_sign P x (u ∷ us, ys, s, t, e) = cc

next_begins : {A : Type 0} (P : A → List Token → Type 0) (x : A) (xs rest : List Token) → Next P x xs → is_sign_next Comma (xs ++ rest) ≡ true
next_begins P x xs rest s =
    ap (is_sign_next Comma) (ap (λ (l : List Token). l ++ rest) s.4 ∙ append_assoc s.0 s.1 rest) ∙ is_sign_next-again Comma s.0 (s.1 ++ rest) s.2

module _ {A : Type 0} {part : Reading A} {F : A → Type 0} {P L E : A → List Token → Type 0} (p : IsReader part F P L E) where
  -- A part may be followed by a comma, and the last one by what follows the list, which is no comma.
  pub record Lists (Last : List Token → Type 0) : Type 0 where
    pub follows : (x : A) (xs rest : List Token) → Sign Comma xs → E x (xs ++ rest)
    pub last : (x : A) (rest : List Token) → Last rest → E x rest
    pub stops : (rest : List Token) → Last rest → is_sign_next Comma rest ≡ false

  module _ {Last : List Token → Type 0} (l : Lists Last) where
    follows_next : (x y : A) (ys rest : List Token) → Next P y ys → E x (ys ++ rest)
    follows_next x y ys rest s =
        subst (λ (t : List Token). E x t) (sym (ap (λ (t : List Token). t ++ rest) s.4 ∙ append_assoc s.0 s.1 rest)) (l.follows x s.0 (s.1 ++ rest) s.2)

    next_repeats : Repeats (is_sign_next Comma) (after comma_mark p) Last
    next_repeats = record { filled = no_sign P; begins = next_begins P; follows = follows_next; last = l.last; stops = l.stops }

    listed_takes : (ts : List Token) (xs : List A) (rest : List Token) → commas part ts ≡ Ok (xs, rest) → IsTaken (AllByRecursion F) (Listed P) Any ts xs rest
    unfolding commas
    listed_takes ts xs rest e =
        let behind = λ (v : List Token). each (is_sign_next Comma) (sign Comma ▷ part) v in
        let a = bind_ok ((part & behind) ts) (λ (x : (A × List A) × List Token). Ok (x.0.0 ∷ x.0.1, x.1)) (xs, rest) e in
        let b = bind_ok (part ts) (λ x. behind x.1 >>= λ y. Ok ((x.0, y.0), y.1)) a.0 a.1 in
        let c = bind_ok (behind b.0.1) (λ y. Ok ((b.0.0, y.0), y.1)) a.0 b.2 in
        let one = p.takes ts b.0.0 b.0.1 b.1 in
        let more = repeated_takes (is_sign_next Comma) (after comma_mark p) (length b.0.1) b.0.1 c.0.0 c.0.1 c.1 in
        let same = ap (λ (z : (A × List A) × List Token). (z.0.0 ∷ z.0.1, z.1)) (ok_is ((b.0.0, c.0.0), c.0.1) a.0 c.2) ∙ ok_is (a.0.0.0 ∷ a.0.0.1, a.0.1) (xs, rest) a.2 in
        subst (λ (z : List A × List Token). IsTaken (AllByRecursion F) (Listed P) Any ts z.0 z.1) same
        (record {
          fits = (one.fits, more.fits);
          leaves = tt;
          front = one.front ++ more.front;
          spelled = to_commas P b.0.0 c.0.0 one.front more.front one.spelled more.spelled;
          parts = one.parts ∙ ap (λ (t : List Token). one.front ++ t) more.parts ∙ sym (append_assoc one.front more.front c.0.1);
        })

    first_follows : (x : A) (xs : List A) (vs rest : List Token) → Many (Next P) xs vs → Last rest → E x (vs ++ rest)
    first_follows x [] vs rest s end = subst (λ (t : List Token). E x (t ++ rest)) (sym s) (l.last x rest end)
    first_follows x (y ∷ ys) vs rest s end =
        subst (λ (t : List Token). E x t) (sym (ap (λ (t : List Token). t ++ rest) s.4 ∙ append_assoc s.0 s.1 rest)) (follows_next x y s.0 (s.1 ++ rest) s.2)

    longer : (vs rest : List Token) → length vs ≤ length (vs ++ rest)
    longer vs rest = let n = length-append vs rest in omega arith

    listed_again : (xs : List A) (ts rest : List Token) → AllByRecursion F xs → Listed P xs ts → Last rest → commas part (ts ++ rest) ≡ Ok (xs, rest)
    unfolding commas
    listed_again [] ts rest fits s end = absurd s
    listed_again (x ∷ xs) ts rest fits s end =
        let m = from_commas P x xs ts s in
        let us = m.0 in
        let vs = m.1 in
        let e : ts ++ rest ≡ us ++ (vs ++ rest) = ap (λ (t : List Token). t ++ rest) m.4 ∙ append_assoc us vs rest in
        let one : part (us ++ (vs ++ rest)) ≡ Ok (x, vs ++ rest) = p.again x us (vs ++ rest) fits.0 m.2 (first_follows x xs vs rest m.3 end) in
        let more : repeated (is_sign_next Comma) (sign Comma ▷ part) (length (vs ++ rest)) (vs ++ rest) ≡ Ok (xs, rest) =
        repeated_again (is_sign_next Comma) (after comma_mark p) next_repeats (length (vs ++ rest)) xs vs rest fits.1 m.3 (longer vs rest) end in
        rw (e, one, more) refl

    -- parts with a comma between each two
    pub listed : IsReader (commas part) (AllByRecursion F) (Listed P) Any (λ xs rest. Last rest)
    listed = record { takes = listed_takes; again = listed_again }

pub keeps_commas : {A : Type 0} {part more : Reading A} → Keeps part more → Keeps (commas part) (commas more)
unfolding commas
keeps_commas k ts = keeps_made (λ v. v.0 ∷ v.1) (keeps_both k (keeps_each (is_sign_next Comma) (keeps_after (sign Comma) k))) ts
