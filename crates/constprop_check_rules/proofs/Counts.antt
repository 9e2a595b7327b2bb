-- The tables have nothing at another number of words.
use Rattle.std.proofs.Common.{◌≡◌, ◌≢◌, ℕ, List, [], ◌∷◌, length, None, false, refl}
use Rattle.ints.specs.declared.operators.Op.{Op}
use Rattle.ints.specs.declared.operators.Op.TheVariants as op
use Rattle.ints.specs.declared.conditions.Cond.{Cond}
use Rattle.ints.specs.declared.conditions.Cond.TheVariants as condition
use Rattle.ints.specs.Codes.{argument_count_of}
use Rattle.ints.specs.Conditions.{cond_argument_count_of}
use Rattle.ints.specs.MachineTable.{machine_table}
use Rattle.ints.specs.CondTable.{cond_table}

pub no_result : (o : Op) (words : List ℕ) → length words ≢ argument_count_of o → machine_table o words ≡ None
unfolding machine_table argument_count_of
no_result op.NegS (x ∷ []) other = absurd (other refl)
no_result op.NegU (x ∷ []) other = absurd (other refl)
no_result op.Not (x ∷ []) other = absurd (other refl)
no_result op.IsZero (x ∷ []) other = absurd (other refl)
no_result op.AddS (x ∷ y ∷ []) other = absurd (other refl)
no_result op.AddU (x ∷ y ∷ []) other = absurd (other refl)
no_result op.SubS (x ∷ y ∷ []) other = absurd (other refl)
no_result op.SubU (x ∷ y ∷ []) other = absurd (other refl)
no_result op.MulS (x ∷ y ∷ []) other = absurd (other refl)
no_result op.MulU (x ∷ y ∷ []) other = absurd (other refl)
no_result op.DivS (x ∷ y ∷ []) other = absurd (other refl)
no_result op.DivU (x ∷ y ∷ []) other = absurd (other refl)
no_result op.ModS (x ∷ y ∷ []) other = absurd (other refl)
no_result op.ModU (x ∷ y ∷ []) other = absurd (other refl)
no_result op.And (x ∷ y ∷ []) other = absurd (other refl)
no_result op.Or (x ∷ y ∷ []) other = absurd (other refl)
no_result op.Xor (x ∷ y ∷ []) other = absurd (other refl)
no_result op.ShlS (x ∷ y ∷ []) other = absurd (other refl)
no_result op.ShlU (x ∷ y ∷ []) other = absurd (other refl)
no_result op.ShrS (x ∷ y ∷ []) other = absurd (other refl)
no_result op.ShrU (x ∷ y ∷ []) other = absurd (other refl)
no_result op.Eq (x ∷ y ∷ []) other = absurd (other refl)
no_result op.Ne (x ∷ y ∷ []) other = absurd (other refl)
no_result op.LtS (x ∷ y ∷ []) other = absurd (other refl)
no_result op.LtU (x ∷ y ∷ []) other = absurd (other refl)
no_result op.LeS (x ∷ y ∷ []) other = absurd (other refl)
no_result op.LeU (x ∷ y ∷ []) other = absurd (other refl)
no_result _ _ other = refl

pub not_held : (c : Cond) (words : List ℕ) → length words ≢ cond_argument_count_of c → cond_table c words ≡ false
unfolding cond_table cond_argument_count_of
not_held condition.Nz (x ∷ []) other = absurd (other refl)
not_held condition.Eq (x ∷ y ∷ []) other = absurd (other refl)
not_held condition.Ne (x ∷ y ∷ []) other = absurd (other refl)
not_held condition.LtS (x ∷ y ∷ []) other = absurd (other refl)
not_held condition.LtU (x ∷ y ∷ []) other = absurd (other refl)
not_held condition.LeS (x ∷ y ∷ []) other = absurd (other refl)
not_held condition.LeU (x ∷ y ∷ []) other = absurd (other refl)
not_held _ _ other = refl
