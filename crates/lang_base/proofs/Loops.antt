-- Reading so many of a kind, as a loop does.
use Rattle.std.proofs.Common.{◌≡◌, ℕ, suc, ◌-◌, ◌+◌, ◌≤◌, ◌<◌, List, [], ◌∷◌, ◌++◌, Result, Ok, Err, refl, sym, ◌∙◌, arith}
use Rattle.lang_base.specs.declared.errors.FormError.{FormError}
use Rattle.lang_base.specs.Reading.{Reading, more}

module _ {A : Type 0} (part : List A → Reading A) (count : ℕ) (total : Result (List A × List ℕ) FormError) where
  -- what is still to be read behind those before gives what the whole gives
  abbrev pub IsUnderWay : List A → ℕ → List ℕ → Type 0
  IsUnderWay before i bytes = more part before (count - i) bytes ≡ total

  pub goes_on : (before : List A) (i : ℕ) (bytes : List ℕ) (x : A) (rest : List ℕ) → i < count → IsUnderWay before i bytes → part before bytes ≡ Ok (x, rest) → IsUnderWay (before ++ x ∷ []) (i + 1) rest
  goes_on before i bytes x rest lt so_far e =
      let k : count - i ≡ suc (count - (i + 1)) = omega arith in
      let one : more part before (count - i) bytes ≡ more part (before ++ x ∷ []) (count - (i + 1)) rest = rw (k, e) refl in
      sym one ∙ so_far

  pub stops : (fault : FormError) (before : List A) (i : ℕ) (bytes : List ℕ) → i < count → IsUnderWay before i bytes → part before bytes ≡ Err fault → total ≡ Err fault
  stops fault before i bytes lt so_far e =
      let k : count - i ≡ suc (count - (i + 1)) = omega arith in
      let one : more part before (count - i) bytes ≡ Err fault = rw (k, e) refl in
      sym so_far ∙ one

  pub is_done : (before : List A) (i : ℕ) (bytes : List ℕ) → count ≤ i → IsUnderWay before i bytes → total ≡ Ok (before, bytes)
  is_done before i bytes le so_far =
      let k : count - i ≡ 0 = omega arith in
      let one : more part before (count - i) bytes ≡ Ok (before, bytes) = rw k refl in
      sym so_far ∙ one
