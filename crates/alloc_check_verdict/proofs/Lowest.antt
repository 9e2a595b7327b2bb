-- The lowest wrong node, found from the last node down.
use Rattle.std.proofs.Common.{◌≡◌, ℕ, zero, suc, ◌+◌, ◌<◌, ◌≤◌, List, [], ◌∷◌, ◌++◌, length, take, refl, ap, Option, Some, None, subst, sym, arith, inl, inr}
use Rattle.std.proofs.lemmas.Bool.{cases_eq}
use Rattle.rtl_passes_marks.specs.Faults.{TellsLowest}
use Rattle.alloc_check_verdict.specs.Walk.{TellsFrom}

module _ (Right : ℕ → Type 0) (count : ℕ) where
  pub tells_right : (n next : ℕ) (told : Option ℕ) → next ≡ suc n → TellsFrom Right next count told → Right n → TellsFrom Right n count told
  tells_right n next None is lower right = λ k from below. elim (cases_eq k n) [
    | inl same ↦ subst Right (sym same) right
    | inr other ↦ lower k (omega (arith, is, from, other)) below
  ]
  tells_right n next (Some w) is lowest right = record {
    above = omega (arith, lowest.above, is);
    within = lowest.within;
    wrong = lowest.wrong;
    lower = λ k from less. elim (cases_eq k n) [
      | inl same ↦ subst Right (sym same) right
      | inr other ↦ lowest.lower k (omega (arith, is, from, other)) less
    ];
  }

  pub tells_wrong : (n : ℕ) → n < count → ¬ Right n → TellsFrom Right n count (Some n)
  tells_wrong n below wrong = record {
    above = omega arith;
    within = below;
    wrong = wrong;
    lower = λ k from less. absurd (omega (arith, from, less));
  }

  pub tells_last : (told : Option ℕ) (n : ℕ) → n ≡ 0 → TellsFrom Right n count told → TellsLowest Right count told
  tells_last None n is lower = λ k below. lower k (omega (arith, is)) below
  tells_last (Some w) n is lowest = record {
    within = lowest.within;
    wrong = lowest.wrong;
    lower = λ k less. lowest.lower k (omega (arith, is)) less;
  }

-- a slice of all of a list, written back
pub take_all : {A : Type 0} (xs ys : List A) (n : ℕ) → length xs ≡ n → take n (xs ++ ys) ≡ xs
take_all [] [] zero e = refl
take_all [] (y ∷ ys) zero e = refl
take_all [] ys (suc n) e = absurd (omega arith)
take_all (x ∷ xs) ys zero e = absurd (omega arith)
take_all (x ∷ xs) ys (suc n) e = ap (λ l. x ∷ l) (take_all xs ys n (omega arith))
