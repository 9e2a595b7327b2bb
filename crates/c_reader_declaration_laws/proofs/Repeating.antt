-- What is read and spelled where parts are repeated, and where a place stands before a part.
use Rattle.std.proofs.Common.{◌≡◌, ℕ, zero, suc, ◌≤◌, Bool, true, false, cond, List, [], ◌∷◌, ◌++◌, length, Ok, inl, inr, refl, sym, ap, subst, ◌∙◌, append_assoc, arith}
use Rattle.std.proofs.lemmas.List.{length-append}
use Rattle.std.specs.List.{AllByRecursion}
use Rattle.c_syntax.specs.declared.token.Token.{Token}
use Rattle.c_syntax.specs.Parts.{◌⨾◌, Nothing, PlacedAt}
use Rattle.c_reader_tokens.specs.Reading.{Reading, ◌>>=◌}
use Rattle.c_reader_productions.specs.Combining.{◌&◌, made, repeated, each}
use Rattle.c_reader_productions.proofs.Combining.{IsReader}
use Rattle.c_reader_tokens.proofs.Laws.{done, ok_is, bind_ok}
use Rattle.c_reader_productions.proofs.Laws.{IsTaken, Any, bind_is, chosen, Keeps, keeps_same, keeps_either, keeps_made, keeps_both}
use Rattle.c_reader_declaration_laws.specs.Reading.{here, is_next_there}

-- Some part that is spelled has a token.
abbrev pub IsFilled : {A : Type 0} → (A → List Token → Type 0) → Type 0
IsFilled {A} P = (x : A) → P x [] → ⊥

-- parts one behind another
abbrev pub Many : {A : Type 0} → (A → List Token → Type 0) → List A → List Token → Type 0
Many P [] = Nothing
Many P (x ∷ xs) = P x ⨾ Many P xs

module _ {A : Type 0} {part : Reading A} {F : A → Type 0} {P L E : A → List Token → Type 0} (p : IsReader part F P L E) (filled : IsFilled P) where
  placed_front : (t : Token) (ts : List Token) (x : A) (front rest : List Token) → P x front → t ∷ ts ≡ front ++ rest → PlacedAt t.start (P x) front
  placed_front t ts x [] rest s e = absurd (filled x s)
  placed_front t ts x (u ∷ us) rest s e = (s, let same : t ≡ u = cc in ap (λ (v : Token). v.start) (sym same))

  placed_takes : (ts : List Token) (v : ℕ × A) (rest : List Token) → (here & part) ts ≡ Ok (v, rest) → IsTaken (λ (w : ℕ × A). F w.1) (λ w. PlacedAt w.0 (P w.1)) (λ w. L w.1) ts v rest
  placed_takes [] v rest e = absurd cc
  placed_takes (t ∷ ts) v rest e =
      let c = bind_ok (part (t ∷ ts)) (λ y. Ok ((t.start, y.0), y.1)) (v, rest) e in
      let u = p.takes (t ∷ ts) c.0.0 c.0.1 c.1 in
      subst (λ (z : (ℕ × A) × List Token). IsTaken (λ (w : ℕ × A). F w.1) (λ w. PlacedAt w.0 (P w.1)) (λ w. L w.1) (t ∷ ts) z.0 z.1) (ok_is ((t.start, c.0.0), c.0.1) (v, rest) c.2)
      (record { fits = u.fits; leaves = u.leaves; front = u.front; spelled = placed_front t ts c.0.0 u.front c.0.1 u.spelled u.parts; parts = u.parts })

  placed_again : (v : ℕ × A) (xs rest : List Token) → F v.1 → PlacedAt v.0 (P v.1) xs → E v.1 rest → (here & part) (xs ++ rest) ≡ Ok (v, rest)
  placed_again v [] rest fits s end = absurd s.1
  placed_again v (t ∷ ts) rest fits s end =
      bind_is (part (t ∷ (ts ++ rest))) (λ y. Ok ((t.start, y.0), y.1)) (v.1, rest) (p.again v.1 (t ∷ ts) rest fits s.0 end)
      ∙ ap (λ (n : ℕ). Ok ((n, v.1), rest)) s.1

  -- a part and its place
  pub placed : IsReader (here & part) (λ (w : ℕ × A). F w.1) (λ w. PlacedAt w.0 (P w.1)) (λ w. L w.1) (λ w. E w.1)
  placed = record { takes = placed_takes; again = placed_again }

module _ {A : Type 0} (goes : List Token → Bool) {part : Reading A} {F : A → Type 0} {P L E : A → List Token → Type 0} (p : IsReader part F P L E) where
  none_taken : (ts : List Token) (xs : List A) (rest : List Token) → done {A = List A × List Token} ([], ts) ≡ done (xs, rest) → IsTaken (AllByRecursion F) (Many P) Any ts xs rest
  none_taken ts xs rest e =
      subst (λ (z : List A × List Token). IsTaken (AllByRecursion F) (Many P) Any ts z.0 z.1) (ok_is ([], ts) (xs, rest) e)
      (record { fits = tt; leaves = tt; front = []; spelled = refl; parts = refl })

  pub repeated_takes : (limit : ℕ) (ts : List Token) (xs : List A) (rest : List Token) → repeated goes part limit ts ≡ Ok (xs, rest) → IsTaken (AllByRecursion F) (Many P) Any ts xs rest
  unfolding repeated
  repeated_takes zero ts xs rest e = none_taken ts xs rest e
  repeated_takes (suc limit) ts xs rest e =
      elim (chosen (goes ts) (made (λ v. v.0 ∷ v.1) (part & repeated goes part limit) ts) (Ok ([], ts)) (Ok (xs, rest)) e) [
        | inr h ↦ none_taken ts xs rest h.1
        | inl h ↦
            let a = bind_ok ((part & repeated goes part limit) ts) (λ (x : (A × List A) × List Token). Ok (x.0.0 ∷ x.0.1, x.1)) (xs, rest) h.1 in
            let b = bind_ok (part ts) (λ x. repeated goes part limit x.1 >>= λ y. Ok ((x.0, y.0), y.1)) a.0 a.1 in
            let c = bind_ok (repeated goes part limit b.0.1) (λ y. Ok ((b.0.0, y.0), y.1)) a.0 b.2 in
            let one = p.takes ts b.0.0 b.0.1 b.1 in
            let more = repeated_takes limit b.0.1 c.0.0 c.0.1 c.1 in
            let same = ap (λ (z : (A × List A) × List Token). (z.0.0 ∷ z.0.1, z.1)) (ok_is ((b.0.0, c.0.0), c.0.1) a.0 c.2) ∙ ok_is (a.0.0.0 ∷ a.0.0.1, a.0.1) (xs, rest) a.2 in
            subst (λ (z : List A × List Token). IsTaken (AllByRecursion F) (Many P) Any ts z.0 z.1) same
            (record {
              fits = (one.fits, more.fits);
              leaves = tt;
              front = one.front ++ more.front;
              spelled = (one.front, more.front, one.spelled, more.spelled, refl);
              parts = one.parts ∙ ap (λ (l : List Token). one.front ++ l) more.parts ∙ sym (append_assoc one.front more.front c.0.1);
            })
      ]

  -- Each part goes on, another may follow it, and where the last one ends, no other goes on.
  pub record Repeats (Last : List Token → Type 0) : Type 0 where
    pub filled : IsFilled P
    pub begins : (x : A) (xs rest : List Token) → P x xs → goes (xs ++ rest) ≡ true
    pub follows : (x y : A) (ys rest : List Token) → P y ys → E x (ys ++ rest)
    pub last : (x : A) (rest : List Token) → Last rest → E x rest
    pub stops : (rest : List Token) → Last rest → goes rest ≡ false

  module _ {Last : List Token → Type 0} (r : Repeats Last) where
    shorter : (x : A) (us vs : List Token) (limit : ℕ) → P x us → length (us ++ vs) ≤ suc limit → length vs ≤ limit
    shorter x [] vs limit s le = absurd (r.filled x s)
    shorter x (u ∷ us) vs limit s le = let l = length-append us vs in omega arith

    too_many : (x : A) (us vs : List Token) → P x us → length (us ++ vs) ≤ 0 → ⊥
    too_many x [] vs s le = r.filled x s
    too_many x (u ∷ us) vs s le = omega arith

    between : (x : A) (xs : List A) (vs rest : List Token) → Many P xs vs → Last rest → E x (vs ++ rest)
    between x [] vs rest s end = subst (λ (l : List Token). E x (l ++ rest)) (sym s) (r.last x rest end)
    between x (y ∷ ys) vs rest s end =
        subst (λ (l : List Token). E x l) (sym (ap (λ (l : List Token). l ++ rest) s.4 ∙ append_assoc s.0 s.1 rest)) (r.follows x y s.0 (s.1 ++ rest) s.2)

    pub repeated_again : (limit : ℕ) (xs : List A) (ts rest : List Token) → AllByRecursion F xs → Many P xs ts → length ts ≤ limit → Last rest → repeated goes part limit (ts ++ rest) ≡ Ok (xs, rest)
    unfolding repeated
    repeated_again zero [] ts rest fits s le end = ap (λ (l : List Token). Ok ([], l ++ rest)) s
    repeated_again zero (x ∷ xs) ts rest fits s le end = absurd (too_many x s.0 s.1 s.2 (subst (λ (l : List Token). length l ≤ 0) s.4 le))
    repeated_again (suc limit) [] ts rest fits s le end =
        ap (λ (l : List Token). repeated goes part (suc limit) (l ++ rest)) s ∙ ap (λ b. cond b (made (λ v. v.0 ∷ v.1) (part & repeated goes part limit) rest) (Ok ([], rest))) (r.stops rest end)
    repeated_again (suc limit) (x ∷ xs) ts rest fits s le end =
        let us = s.0 in
        let vs = s.1 in
        let e : ts ++ rest ≡ us ++ (vs ++ rest) = ap (λ (l : List Token). l ++ rest) s.4 ∙ append_assoc us vs rest in
        let go : goes (us ++ (vs ++ rest)) ≡ true = r.begins x us (vs ++ rest) s.2 in
        let one : part (us ++ (vs ++ rest)) ≡ Ok (x, vs ++ rest) = p.again x us (vs ++ rest) fits.0 s.2 (between x xs vs rest s.3 end) in
        let more : repeated goes part limit (vs ++ rest) ≡ Ok (xs, rest) = repeated_again limit xs vs rest fits.1 s.3 (shorter x us vs limit s.2 (subst (λ (l : List Token). length l ≤ suc limit) s.4 le)) end in
        rw (e, go, one, more) refl

-- Parts up to the end leave nothing.
module _ {A : Type 0} {part : Reading A} {F : A → Type 0} {P L E : A → List Token → Type 0} (p : IsReader part F P L E) (filled : IsFilled P) where
  left_less : (x : A) (us rest ts : List Token) (limit : ℕ) → P x us → ts ≡ us ++ rest → length ts ≤ suc limit → length rest ≤ limit
  left_less x [] rest ts limit s e le = absurd (filled x s)
  left_less x (u ∷ us) rest ts limit s e le =
      let n = ap (λ (l : List Token). length l) e in
      let m = length-append us rest in
      omega arith

  pub repeated_whole : (limit : ℕ) (ts : List Token) (xs : List A) (rest : List Token) → length ts ≤ limit → repeated is_next_there part limit ts ≡ Ok (xs, rest) → rest ≡ []
  unfolding repeated
  repeated_whole zero [] xs rest le e = ap (λ (z : List A × List Token). z.1) (ok_is (xs, rest) ([], []) (sym e))
  repeated_whole zero (t ∷ ts) xs rest le e = absurd (omega arith)
  repeated_whole (suc limit) [] xs rest le e = ap (λ (z : List A × List Token). z.1) (ok_is (xs, rest) ([], []) (sym e))
  repeated_whole (suc limit) (t ∷ ts) xs rest le e =
      let a = bind_ok ((part & repeated is_next_there part limit) (t ∷ ts)) (λ (x : (A × List A) × List Token). Ok (x.0.0 ∷ x.0.1, x.1)) (xs, rest) e in
      let b = bind_ok (part (t ∷ ts)) (λ x. repeated is_next_there part limit x.1 >>= λ y. Ok ((x.0, y.0), y.1)) a.0 a.1 in
      let c = bind_ok (repeated is_next_there part limit b.0.1) (λ y. Ok ((b.0.0, y.0), y.1)) a.0 b.2 in
      let one = p.takes (t ∷ ts) b.0.0 b.0.1 b.1 in
      let end = repeated_whole limit b.0.1 c.0.0 c.0.1 (left_less b.0.0 one.front b.0.1 (t ∷ ts) limit one.spelled one.parts le) c.1 in
      let same = ap (λ (z : (A × List A) × List Token). z.1) (ok_is ((b.0.0, c.0.0), c.0.1) a.0 c.2) ∙ ap (λ (z : List A × List Token). z.1) (ok_is (a.0.0.0 ∷ a.0.0.1, a.0.1) (xs, rest) a.2) in
      sym same ∙ end

-- What reads the same with more fuel does so again and again.
pub keeps_repeated : {A : Type 0} (goes : List Token → Bool) {part more : Reading A} → Keeps part more → (limit : ℕ) → Keeps (repeated goes part limit) (repeated goes more limit)
unfolding repeated
keeps_repeated goes {part} {more} k zero ts = inr refl
keeps_repeated goes {part} {more} k (suc limit) ts =
    keeps_either goes (keeps_made (λ v. v.0 ∷ v.1) (keeps_both k (keeps_repeated goes k limit))) (keeps_same (λ rest. Ok ([], rest))) ts

pub keeps_each : {A : Type 0} (goes : List Token → Bool) {part more : Reading A} → Keeps part more → Keeps (each goes part) (each goes more)
keeps_each goes k ts = keeps_repeated goes k (length ts) ts
