-- Reading parts as long as a test holds, as a loop does.
use Rattle.std.proofs.Common.{◌≡◌, ℕ, suc, ◌-◌, ◌+◌, ◌≤◌, ◌<◌, Bool, true, false, List, [], ◌∷◌, ◌++◌, length, Result, Ok, Err, refl, sym, ap, ◌∙◌, append_assoc, append-nil, arith}
use Rattle.c_syntax.specs.declared.token.Token.{Token}
use Rattle.c_syntax.specs.declared.punctuator.Punctuator.TheVariants.{Comma}
use Rattle.c_reader_tokens.specs.declared.fault.Fault.{Fault}
use Rattle.c_reader_tokens.specs.Peeking.{is_sign_next}
use Rattle.c_reader_tokens.specs.Tokens.{sign}
use Rattle.c_reader_tokens.specs.Reading.{Reading, ◌>>=◌}
use Rattle.c_reader_productions.specs.Combining.{◌▷◌, repeated, each, commas}

unchanged_by : {A : Type 0} (read : Result (List A × List Token) Fault) → (read >>= λ more. Ok ([] ++ more.0, more.1)) ≡ read
unchanged_by (Ok more) = refl
unchanged_by (Err e) = refl

-- what stands before, and what is read behind it
abbrev pub with_front : {A : Type 0} → List A → Result (List A × List Token) Fault → Result (List A × List Token) Fault
with_front before read = read >>= λ more. Ok (before ++ more.0, more.1)

one_more : {A : Type 0} (before : List A) (x : A) (read : Result (List A × List Token) Fault) → with_front before (read >>= λ more. Ok (x ∷ more.0, more.1)) ≡ with_front (before ++ x ∷ []) read
one_more before x (Ok more) = ap (λ l. Ok (l, more.1)) (sym (append_assoc before (x ∷ []) more.0))
one_more before x (Err e) = refl

abbrev pub consing : {A : Type 0} → A → Result (List A × List Token) Fault → Result (List A × List Token) Fault
consing {A} x read =
    let both : Result ((A × List A) × List Token) Fault = read >>= λ y. Ok ((x, y.0), y.1) in
    both >>= λ v. Ok (v.0.0 ∷ v.0.1, v.1)

pub consed : {A : Type 0} (x : A) (read : Result (List A × List Token) Fault) → consing x read ≡ (read >>= λ more. Ok (x ∷ more.0, more.1))
consed x (Ok more) = refl
consed x (Err e) = refl

-- what stands behind the first part with a comma
pub commas_begin : {A : Type 0} (part : Reading A) (ts : List Token) (x : A) (rest : List Token) → part ts ≡ Ok (x, rest) → with_front (x ∷ []) (repeated (is_sign_next Comma) (sign Comma ▷ part) (length rest - 0) rest) ≡ commas part ts
unfolding commas
commas_begin part ts x rest e =
    let k : length rest - 0 ≡ length rest = omega arith in
    rw (e, k) (sym (consed x (repeated (is_sign_next Comma) (sign Comma ▷ part) (length rest) rest)))

pub each_begins : {A : Type 0} (goes : List Token → Bool) (part : Reading A) (ts : List Token) → with_front [] (repeated goes part (length ts - 0) ts) ≡ each goes part ts
each_begins goes part ts = let k : length ts - 0 ≡ length ts = omega arith in rw k (unchanged_by (repeated goes part (length ts) ts))

module _ {A : Type 0} (goes : List Token → Bool) (part : Reading A) (count : ℕ) (total : Result (List A × List Token) Fault) where
  -- what is still to be read behind those before gives what the whole gives
  abbrev pub IsUnderWay : List A → ℕ → List Token → Type 0
  IsUnderWay before i ts = with_front before (repeated goes part (count - i) ts) ≡ total

  pub goes_on : (before : List A) (i : ℕ) (ts : List Token) (x : A) (rest : List Token) → i < count → IsUnderWay before i ts → goes ts ≡ true → part ts ≡ Ok (x, rest) → IsUnderWay (before ++ x ∷ []) (i + 1) rest
  unfolding repeated
  goes_on before i ts x rest lt so_far holds e =
      let k : count - i ≡ suc (count - (i + 1)) = omega arith in
      let read : repeated goes part (count - i) ts ≡ (repeated goes part (count - (i + 1)) rest >>= λ more. Ok (x ∷ more.0, more.1)) = rw (k, holds, e) (consed x (repeated goes part (count - (i + 1)) rest)) in
      sym (one_more before x (repeated goes part (count - (i + 1)) rest)) ∙ sym (ap (with_front before) read) ∙ so_far

  pub stops : (fault : Fault) (before : List A) (i : ℕ) (ts : List Token) → i < count → IsUnderWay before i ts → goes ts ≡ true → part ts ≡ Err fault → total ≡ Err fault
  unfolding repeated
  stops fault before i ts lt so_far holds e =
      let k : count - i ≡ suc (count - (i + 1)) = omega arith in
      let read : repeated goes part (count - i) ts ≡ Err fault = rw (k, holds, e) refl in
      sym so_far ∙ ap (with_front before) read

  pub ends : (before : List A) (i : ℕ) (ts : List Token) → i < count → IsUnderWay before i ts → goes ts ≡ false → total ≡ Ok (before, ts)
  unfolding repeated
  ends before i ts lt so_far holds =
      let k : count - i ≡ suc (count - (i + 1)) = omega arith in
      let read : repeated goes part (count - i) ts ≡ Ok ([], ts) = rw (k, holds) refl in
      sym so_far ∙ ap (with_front before) read ∙ ap (λ l. Ok (l, ts)) (append-nil before)

  pub is_done : (before : List A) (i : ℕ) (ts : List Token) → count ≤ i → IsUnderWay before i ts → total ≡ Ok (before, ts)
  unfolding repeated
  is_done before i ts le so_far =
      let k : count - i ≡ 0 = omega arith in
      let read : repeated goes part (count - i) ts ≡ Ok ([], ts) = rw k refl in
      sym so_far ∙ ap (with_front before) read ∙ ap (λ l. Ok (l, ts)) (append-nil before)
