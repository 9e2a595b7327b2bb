-- When a condition holds (C99 6.5.8 and 6.5.9).
use Rattle.std.specs.Prelude.{ℕ, Bool, false, not, List, [], ◌∷◌, nat_eq, nat_lt, nat_le, int_lt, int_le}
use Rattle.ints.specs.declared.conditions.Cond.{Cond}
use Rattle.ints.specs.declared.conditions.Cond.TheVariants.{Nz, Eq, Ne, LtS, LtU, LeS, LeU}
use Rattle.ints.specs.Words.{signed}

-- whether the condition holds of these words; no condition holds at another number of words
unfoldable pub cond_table : Cond → List ℕ → Bool
cond_table Nz (x ∷ []) = not (nat_eq x 0)
cond_table Eq (x ∷ y ∷ []) = nat_eq x y
cond_table Ne (x ∷ y ∷ []) = not (nat_eq x y)
cond_table LtS (x ∷ y ∷ []) = int_lt (signed x) (signed y)
cond_table LtU (x ∷ y ∷ []) = nat_lt x y
cond_table LeS (x ∷ y ∷ []) = int_le (signed x) (signed y)
cond_table LeU (x ∷ y ∷ []) = nat_le x y
cond_table _ _ = false
