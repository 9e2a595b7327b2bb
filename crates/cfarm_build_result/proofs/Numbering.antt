-- What is told of the functions, one more at a time.
use Rattle.std.proofs.Common.{◌≡◌, ℕ, zero, suc, ◌+◌, ◌<◌, List, [], ◌∷◌, ◌++◌, length, Some, refl, sym, ap, subst, ◌∙◌, arith, inl, inr}
use Rattle.std.specs.Prelude.{slice_get}
use Rattle.std.proofs.lemmas.Bool.{cases_eq}
use Rattle.std.proofs.lemmas.Option.{slice_get_within}
use Rattle.rooms_hall.specs.declared.hall.Naming as naming
use Rattle.farm_nodes_link.specs.NumberedSeat.{NumberedSeat}
use Rattle.cfarm_build_result.specs.declared.function.FunctionRooms.{FunctionRooms}
use Rattle.cfarm_build_result.specs.Told.{AreTold, TellsRooms}

-- one behind the others
front : {A : Type 0} (xs : List A) (x y : A) (k : ℕ) → k < length xs → slice_get (xs ++ x ∷ []) k ≡ Some y → slice_get xs k ≡ Some y
front [] x y k below e = absurd (omega (arith, below))
front (z ∷ xs) x y zero below e = e
front (z ∷ xs) x y (suc k) below e = front xs x y k (omega (arith, below)) e

last : {A : Type 0} (xs : List A) (x y : A) (k : ℕ) → k ≡ length xs → slice_get (xs ++ x ∷ []) k ≡ Some y → x ≡ y
last [] x y zero end e = cc e
last [] x y (suc k) end e = absurd (omega (arith, end))
last (z ∷ xs) x y zero end e = absurd (omega (arith, end))
last (z ∷ xs) x y (suc k) end e = last xs x y k (omega (arith, end)) e

longer : {A : Type 0} (xs : List A) (x : A) → length (xs ++ x ∷ []) ≡ length xs + 1
longer [] x = refl
longer (z ∷ xs) x = let more = longer xs x in omega (arith, more)

module _ {H : Type 0} {h : naming.Ghosts H} (names : List (List ℕ)) (seats : List (NumberedSeat H h)) where
  -- of the first functions, so many
  pub record AreTolds (so_far : ℕ) (told : List FunctionRooms) : Type 0 where
    pub count : length told ≡ so_far
    pub each : (k : ℕ) (name : List ℕ) (s : NumberedSeat H h) (f : FunctionRooms) → slice_get names k ≡ Some name
        → slice_get seats k ≡ Some s → slice_get told k ≡ Some f → TellsRooms name s f

  pub none_told : AreTolds 0 []
  none_told = record { count = refl; each = λ k name s f en es ef. absurd (cc ef) }

  pub one_told : (n : ℕ) (told : List FunctionRooms) (f : FunctionRooms) (name : List ℕ) (s : NumberedSeat H h) → AreTolds n told
      → slice_get names n ≡ Some name → slice_get seats n ≡ Some s → TellsRooms name s f → AreTolds (n + 1) (told ++ f ∷ [])
  one_told n told f name s are en es is = record {
    count = let long = longer told f in omega (arith, long, are.count);
    each = λ k name2 s2 f2 en2 es2 ef2. elim (cases_eq k n) [
      | inl same ↦
          let same_name : name ≡ name2 = (let both : Some name ≡ Some name2 = sym en ∙ (sym (ap (λ j. slice_get names j) same) ∙ en2) in cc both) in
          let same_seats : s ≡ s2 = (let both : Some s ≡ Some s2 = sym es ∙ (sym (ap (λ j. slice_get seats j) same) ∙ es2) in cc both) in
          let same_told : f ≡ f2 = last told f f2 k (same ∙ sym are.count) ef2 in
          subst (λ x. TellsRooms x s2 f2) same_name (subst (λ x. TellsRooms name x f2) same_seats (subst (λ x. TellsRooms name s x) same_told is))
      | inr other ↦
          let within : k < length (told ++ f ∷ []) = slice_get_within (told ++ f ∷ []) k f2 ef2 in
          let long = longer told f in
          are.each k name2 s2 f2 en2 es2 (front told f f2 k (omega (arith, within, long, other, are.count)) ef2)
    ];
  }

  pub all_told : (n : ℕ) (told : List FunctionRooms) → n ≡ length names → AreTolds n told → AreTold names seats told
  all_told n told end are = record { count = are.count ∙ end; each = are.each }
