-- Parts and answers side by side.
use Rattle.std.proofs.Common.{◌≡◌, ℕ, zero, suc, List, [], ◌∷◌, ◌++◌, Result, Ok, Some, length, refl, ap, arith}
use Rattle.std.specs.Prelude.{slice_get}
use Rattle.lang_base.specs.declared.errors.FormError.{FormError}
use Rattle.bundle_reading.specs.declared.four.Four.{Four}

some_is : {A : Type 0} (x y : A) → Some x ≡ Some y → x ≡ y
some_is x y e = cc

module _ {T : Type 0} where
  abbrev pub paired : List Four → List T → List (Result (Four × T) FormError)
  paired [] told = []
  paired (four ∷ fours) [] = []
  paired (four ∷ fours) (answer ∷ told) = Ok (four, answer) ∷ paired fours told

  -- one more
  pub paired_more : (fours : List Four) (told : List T) (four : Four) (answer : T) → length told ≡ length fours
      → paired (fours ++ four ∷ []) (told ++ answer ∷ []) ≡ paired fours told ++ Ok (four, answer) ∷ []
  paired_more [] [] four answer many = refl
  paired_more [] (y ∷ told) four answer many = absurd (omega (arith, many))
  paired_more (x ∷ fours) [] four answer many = absurd (omega (arith, many))
  paired_more (x ∷ fours) (y ∷ told) four answer many = ap (λ l. Ok (x, y) ∷ l) (paired_more fours told four answer (omega (arith, many)))

  -- what stands at a place
  pub paired_at : (fours : List Four) (told : List T) (i : ℕ) (four : Four) (answer : T) → slice_get fours i ≡ Some four → slice_get told i ≡ Some answer
      → slice_get (paired fours told) i ≡ Some (Ok (four, answer))
  paired_at [] told zero four answer e e' = absurd cc
  paired_at [] told (suc i) four answer e e' = absurd cc
  paired_at (x ∷ fours) [] zero four answer e e' = absurd cc
  paired_at (x ∷ fours) [] (suc i) four answer e e' = absurd cc
  paired_at (x ∷ fours) (y ∷ told) zero four answer e e' =
      let one = some_is x four e in
      let other = some_is y answer e' in
      λ i. Some (Ok (one i, other i))
  paired_at (x ∷ fours) (y ∷ told) (suc i) four answer e e' = paired_at fours told i four answer e e'
