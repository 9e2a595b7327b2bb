-- C's table: what each operator gives at these words (C99 6.5.3.3 and 6.5.5 to 6.5.12).
-- Wrong are an `int` result that no `int` holds, a zero divisor, a shift by 32 or more, `<<` of a negative
-- `int`, and another number of words than the operator takes. Where C99 leaves the choice, a remainder is
-- wrong if its quotient is no `int`, and `>>` of a negative `int` is rounded down.
use Rattle.std.specs.Prelude.{ℕ, ◌-◌, ◌/◌, ◌%◌, ◌^◌, not, ◌||◌, List, [], ◌∷◌, Result, Ok, Err, if◌then◌else◌, nat_eq, nat_lt, nat_le, ℤ, pos, ◌+ℤ◌, ◌-ℤ◌, ◌*ℤ◌, neg_ℤ, int_lt, int_le, int_div, int_rem, bit_and, bit_or, bit_xor}
use Rattle.ints.specs.declared.operators.Op.{Op}
use Rattle.ints.specs.declared.operators.Op.TheVariants.{NegS, NegU, Not, IsZero, AddS, AddU, SubS, SubU, MulS, MulU, DivS, DivU, ModS, ModU, And, Or, Xor, ShlS, ShlU, ShrS, ShrU, Eq, Ne, LtS, LtU, LeS, LeU}
use Rattle.ints.specs.declared.wrong.CWrong.{CWrong}
use Rattle.ints.specs.Words.{signed, wrapped, is_int, floor_of, flag}

-- no result
abbrev pub wrong : Result ℕ CWrong
wrong = Err (record {})

-- the word for an exact result of type `int`
abbrev pub int_or_wrong : ℤ → Result ℕ CWrong
int_or_wrong z = if is_int z then Ok (wrapped z) else wrong

unfoldable pub c_table : Op → List ℕ → Result ℕ CWrong
c_table NegS (x ∷ []) = int_or_wrong (neg_ℤ (signed x))
c_table NegU (x ∷ []) = Ok (wrapped (neg_ℤ (pos x)))
c_table Not (x ∷ []) = Ok (2 ^ 32 - 1 - x)
c_table IsZero (x ∷ []) = Ok (flag (nat_eq x 0))
c_table AddS (x ∷ y ∷ []) = int_or_wrong (signed x +ℤ signed y)
c_table AddU (x ∷ y ∷ []) = Ok (wrapped (pos x +ℤ pos y))
c_table SubS (x ∷ y ∷ []) = int_or_wrong (signed x -ℤ signed y)
c_table SubU (x ∷ y ∷ []) = Ok (wrapped (pos x -ℤ pos y))
c_table MulS (x ∷ y ∷ []) = int_or_wrong (signed x *ℤ signed y)
c_table MulU (x ∷ y ∷ []) = Ok (wrapped (pos x *ℤ pos y))
c_table DivS (x ∷ y ∷ []) = if nat_eq y 0 then wrong else int_or_wrong (int_div (signed x) (signed y))
c_table DivU (x ∷ y ∷ []) = if nat_eq y 0 then wrong else Ok (x / y)
c_table ModS (x ∷ y ∷ []) =
    if nat_eq y 0 || not (is_int (int_div (signed x) (signed y))) then wrong
    else Ok (wrapped (int_rem (signed x) (signed y)))
c_table ModU (x ∷ y ∷ []) = if nat_eq y 0 then wrong else Ok (x % y)
c_table And (x ∷ y ∷ []) = Ok (bit_and x y)
c_table Or (x ∷ y ∷ []) = Ok (bit_or x y)
c_table Xor (x ∷ y ∷ []) = Ok (bit_xor x y)
c_table ShlS (x ∷ y ∷ []) =
    if nat_le 32 y || int_lt (signed x) (pos 0) then wrong
    else int_or_wrong (signed x *ℤ pos (2 ^ y))
c_table ShlU (x ∷ y ∷ []) = if nat_le 32 y then wrong else Ok (wrapped (pos x *ℤ pos (2 ^ y)))
c_table ShrS (x ∷ y ∷ []) = if nat_le 32 y then wrong else Ok (wrapped (floor_of (signed x) (2 ^ y)))
c_table ShrU (x ∷ y ∷ []) = if nat_le 32 y then wrong else Ok (x / 2 ^ y)
c_table Eq (x ∷ y ∷ []) = Ok (flag (nat_eq x y))
c_table Ne (x ∷ y ∷ []) = Ok (flag (not (nat_eq x y)))
c_table LtS (x ∷ y ∷ []) = Ok (flag (int_lt (signed x) (signed y)))
c_table LtU (x ∷ y ∷ []) = Ok (flag (nat_lt x y))
c_table LeS (x ∷ y ∷ []) = Ok (flag (int_le (signed x) (signed y)))
c_table LeU (x ∷ y ∷ []) = Ok (flag (nat_le x y))
c_table _ _ = wrong
