-- Shifts: a count below 32 has an answer, which is the instruction's, and no other has one.
use Rattle.std.proofs.Common.{◌≡◌, ℕ, ◌/◌, ◌^◌, ◌<◌, Bool, true, false, [], ◌∷◌, Option, Some, None, refl, sym, ap, ◌∙◌, pos, ◌*ℤ◌}
use Rattle.std.specs.Prelude.{nat_le, if◌then◌else◌}
use Rattle.std.proofs.lemmas.Bool.{false≢true, lt-leb}
use Rattle.std.proofs.lemmas.Nat.{pow_below}
use Rattle.ints.specs.MachineTable.{machine_table}
use Rattle.ints.specs.Words.{wrapped}
use Rattle.ints.specs.declared.operators.Op.TheVariants as op
use Rattle.ints.proofs.Wrapping.{wrapped-mul_left}
use Rattle.x86_syntax.specs.declared.condition.Condition.TheVariants.{AboveOrEqual}
use Rattle.x86_syntax.specs.declared.operators.Operator.TheVariants.{Mul}
use Rattle.x86_syntax.specs.declared.operators.Shifting.TheVariants.{Shl, Shr, Sar}
use Rattle.x86_state.specs.Tables.{operated, shifted, condition_table}
use Rattle.native_lowering_numbers.proofs.Wrapped.{mul_unsigned}

-- the test before a shift
pub count_asks : (x y : ℕ) → condition_table AboveOrEqual x y ≡ nat_le y x
unfolding condition_table
count_asks x y = refl

module _ (x y : ℕ) where
  pub left_signed : x < 2 ^ 32 → machine_table op.ShlS (x ∷ y ∷ []) ≡ shifted Shl x y
  unfolding machine_table
  left_signed h = ap (λ w. if nat_le 32 y then None else Some w) (wrapped-mul_left x (pos (2 ^ y)) h)

  pub left_unsigned : machine_table op.ShlU (x ∷ y ∷ []) ≡ shifted Shl x y
  left_unsigned = refl

  pub right_signed : machine_table op.ShrS (x ∷ y ∷ []) ≡ shifted Sar x y
  right_signed = refl

  pub right_unsigned : machine_table op.ShrU (x ∷ y ∷ []) ≡ shifted Shr x y
  right_unsigned = refl

abbrev Answers : Option ℕ → Type 0
Answers o = (w : ℕ) × (o ≡ Some w)

answers_if : (b : Bool) (w : ℕ) → b ≡ false → Answers (if b then None else Some w)
answers_if true w e = absurd (false≢true (sym e))
answers_if false w e = (w, refl)

none_if : (b : Bool) (w : ℕ) → b ≡ true → (if b then None else Some w) ≡ None
none_if true w e = refl
none_if false w e = absurd (false≢true e)

-- below 32
module _ (x y : ℕ) (few : nat_le 32 y ≡ false) where
  pub left_answers : Answers (shifted Shl x y)
  unfolding machine_table
  left_answers = answers_if (nat_le 32 y) _ few

  pub right_answers : Answers (shifted Shr x y)
  unfolding machine_table
  right_answers = answers_if (nat_le 32 y) _ few

  pub signed_right_answers : Answers (shifted Sar x y)
  unfolding machine_table
  signed_right_answers = answers_if (nat_le 32 y) _ few

-- from 32 on
module _ (x y : ℕ) (many : nat_le 32 y ≡ true) where
  pub left_none : shifted Shl x y ≡ None
  unfolding machine_table
  left_none = none_if (nat_le 32 y) _ many

  pub right_none : shifted Shr x y ≡ None
  unfolding machine_table
  right_none = none_if (nat_le 32 y) _ many

  pub signed_right_none : shifted Sar x y ≡ None
  unfolding machine_table
  signed_right_none = none_if (nat_le 32 y) _ many

-- a right shift by so much is a division by a power of two
pub shifted_out : (x k : ℕ) → k < 32 → shifted Shr x k ≡ Some (x / 2 ^ k)
unfolding machine_table
shifted_out x k few = ap (λ b. if b then None else Some (x / 2 ^ k)) (lt-leb 32 k few)

-- a left one is a product
pub shifted_in : (x k : ℕ) → x < 2 ^ 32 → k < 32 → shifted Shl x k ≡ Some (operated Mul x (2 ^ k))
unfolding machine_table
shifted_in x k h few =
    ap (λ b. if b then None else Some (wrapped (pos x *ℤ pos (2 ^ k)))) (lt-leb 32 k few) ∙ mul_unsigned x (2 ^ k) h (pow_below k 32 few)
