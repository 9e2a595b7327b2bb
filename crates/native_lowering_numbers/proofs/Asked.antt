-- Conditions after a comparison are those of the tables.
use Rattle.std.proofs.Common.{◌≡◌, ℕ, [], ◌∷◌, Some, refl}
use Rattle.ints.specs.CondTable.{cond_table}
use Rattle.ints.specs.MachineTable.{machine_table}
use Rattle.ints.specs.Words.{flag}
use Rattle.ints.specs.declared.conditions.Cond.TheVariants as cond
use Rattle.ints.specs.declared.operators.Op.TheVariants as op
use Rattle.x86_syntax.specs.declared.condition.Condition.TheVariants.{Equal, NotEqual, Less, LessOrEqual, Below, BelowOrEqual}
use Rattle.x86_state.specs.Tables.{condition_table}

-- what an operator gives that asks
module _ (x y : ℕ) where
  pub eq_asks : machine_table op.Eq (x ∷ y ∷ []) ≡ Some (flag (condition_table Equal x y))
  unfolding machine_table condition_table
  eq_asks = refl

  pub ne_asks : machine_table op.Ne (x ∷ y ∷ []) ≡ Some (flag (condition_table NotEqual x y))
  unfolding machine_table condition_table
  ne_asks = refl

  pub less_asks : machine_table op.LtS (x ∷ y ∷ []) ≡ Some (flag (condition_table Less x y))
  unfolding machine_table condition_table
  less_asks = refl

  pub below_asks : machine_table op.LtU (x ∷ y ∷ []) ≡ Some (flag (condition_table Below x y))
  unfolding machine_table condition_table
  below_asks = refl

  pub less_or_equal_asks : machine_table op.LeS (x ∷ y ∷ []) ≡ Some (flag (condition_table LessOrEqual x y))
  unfolding machine_table condition_table
  less_or_equal_asks = refl

  pub below_or_equal_asks : machine_table op.LeU (x ∷ y ∷ []) ≡ Some (flag (condition_table BelowOrEqual x y))
  unfolding machine_table condition_table
  below_or_equal_asks = refl

  -- what a branch asks
  pub eq_branches : cond_table cond.Eq (x ∷ y ∷ []) ≡ condition_table Equal x y
  unfolding cond_table condition_table
  eq_branches = refl

  pub ne_branches : cond_table cond.Ne (x ∷ y ∷ []) ≡ condition_table NotEqual x y
  unfolding cond_table condition_table
  ne_branches = refl

  pub less_branches : cond_table cond.LtS (x ∷ y ∷ []) ≡ condition_table Less x y
  unfolding cond_table condition_table
  less_branches = refl

  pub below_branches : cond_table cond.LtU (x ∷ y ∷ []) ≡ condition_table Below x y
  unfolding cond_table condition_table
  below_branches = refl

  pub less_or_equal_branches : cond_table cond.LeS (x ∷ y ∷ []) ≡ condition_table LessOrEqual x y
  unfolding cond_table condition_table
  less_or_equal_branches = refl

  pub below_or_equal_branches : cond_table cond.LeU (x ∷ y ∷ []) ≡ condition_table BelowOrEqual x y
  unfolding cond_table condition_table
  below_or_equal_branches = refl

-- a word and 0
module _ (x : ℕ) where
  pub zero_asks : machine_table op.IsZero (x ∷ []) ≡ Some (flag (condition_table Equal x 0))
  unfolding machine_table condition_table
  zero_asks = refl

  pub not_zero_branches : cond_table cond.Nz (x ∷ []) ≡ condition_table NotEqual x 0
  unfolding cond_table condition_table
  not_zero_branches = refl
