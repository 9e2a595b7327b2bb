-- The machine's table: what each operator gives at these words. It wraps where C's table is wrong for the
-- size of an `int`. There is no result at a zero divisor, where a signed quotient is no `int`, at a shift
-- by 32 or more, and at another number of words than the operator takes.
use Rattle.std.specs.Prelude.{ℕ, ◌-◌, ◌/◌, ◌%◌, ◌^◌, not, ◌||◌, List, [], ◌∷◌, Option, Some, None, if◌then◌else◌, nat_eq, nat_lt, nat_le, pos, ◌+ℤ◌, ◌-ℤ◌, ◌*ℤ◌, neg_ℤ, int_lt, int_le, int_div, int_rem, bit_and, bit_or, bit_xor}
use Rattle.ints.specs.declared.operators.Op.{Op}
use Rattle.ints.specs.declared.operators.Op.TheVariants.{NegS, NegU, Not, IsZero, AddS, AddU, SubS, SubU, MulS, MulU, DivS, DivU, ModS, ModU, And, Or, Xor, ShlS, ShlU, ShrS, ShrU, Eq, Ne, LtS, LtU, LeS, LeU}
use Rattle.ints.specs.Words.{signed, wrapped, is_int, floor_of, flag}

unfoldable pub machine_table : Op → List ℕ → Option ℕ
machine_table NegS (x ∷ []) = Some (wrapped (neg_ℤ (signed x)))
machine_table NegU (x ∷ []) = Some (wrapped (neg_ℤ (pos x)))
machine_table Not (x ∷ []) = Some (2 ^ 32 - 1 - x)
machine_table IsZero (x ∷ []) = Some (flag (nat_eq x 0))
machine_table AddS (x ∷ y ∷ []) = Some (wrapped (signed x +ℤ signed y))
machine_table AddU (x ∷ y ∷ []) = Some (wrapped (pos x +ℤ pos y))
machine_table SubS (x ∷ y ∷ []) = Some (wrapped (signed x -ℤ signed y))
machine_table SubU (x ∷ y ∷ []) = Some (wrapped (pos x -ℤ pos y))
machine_table MulS (x ∷ y ∷ []) = Some (wrapped (signed x *ℤ signed y))
machine_table MulU (x ∷ y ∷ []) = Some (wrapped (pos x *ℤ pos y))
machine_table DivS (x ∷ y ∷ []) =
    if nat_eq y 0 || not (is_int (int_div (signed x) (signed y))) then None
    else Some (wrapped (int_div (signed x) (signed y)))
machine_table DivU (x ∷ y ∷ []) = if nat_eq y 0 then None else Some (x / y)
machine_table ModS (x ∷ y ∷ []) =
    if nat_eq y 0 || not (is_int (int_div (signed x) (signed y))) then None
    else Some (wrapped (int_rem (signed x) (signed y)))
machine_table ModU (x ∷ y ∷ []) = if nat_eq y 0 then None else Some (x % y)
machine_table And (x ∷ y ∷ []) = Some (bit_and x y)
machine_table Or (x ∷ y ∷ []) = Some (bit_or x y)
machine_table Xor (x ∷ y ∷ []) = Some (bit_xor x y)
machine_table ShlS (x ∷ y ∷ []) = if nat_le 32 y then None else Some (wrapped (signed x *ℤ pos (2 ^ y)))
machine_table ShlU (x ∷ y ∷ []) = if nat_le 32 y then None else Some (wrapped (pos x *ℤ pos (2 ^ y)))
machine_table ShrS (x ∷ y ∷ []) = if nat_le 32 y then None else Some (wrapped (floor_of (signed x) (2 ^ y)))
machine_table ShrU (x ∷ y ∷ []) = if nat_le 32 y then None else Some (x / 2 ^ y)
machine_table Eq (x ∷ y ∷ []) = Some (flag (nat_eq x y))
machine_table Ne (x ∷ y ∷ []) = Some (flag (not (nat_eq x y)))
machine_table LtS (x ∷ y ∷ []) = Some (flag (int_lt (signed x) (signed y)))
machine_table LtU (x ∷ y ∷ []) = Some (flag (nat_lt x y))
machine_table LeS (x ∷ y ∷ []) = Some (flag (int_le (signed x) (signed y)))
machine_table LeU (x ∷ y ∷ []) = Some (flag (nat_le x y))
machine_table _ _ = None
