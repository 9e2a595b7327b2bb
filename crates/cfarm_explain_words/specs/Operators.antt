-- What an operator without a value for its words is told as.
use Rattle.std.specs.Prelude.{ℕ, ◌-◌, ◌^◌, ◌==◌, ◌&&◌, Bool, true, false, if◌then◌else◌, List, ◌++◌, nat_le, codes}
use Rattle.std.specs.Fmt.{decimal}
use Rattle.ints.specs.declared.operators.Op.{Op}
use Rattle.ints.specs.declared.operators.Op.TheVariants as O

-- an `int` is written with its sign
abbrev pub is_negative : ℕ → Bool
is_negative w = nat_le (2 ^ 31) w

abbrev pub int_text : ℕ → List ℕ
int_text w = if is_negative w then codes "-" ++ decimal (2 ^ 32 - w) else decimal w

-- a word as a negative `int` and as `unsigned`
abbrev pub both_text : ℕ → List ℕ
both_text w = codes "-" ++ (decimal (2 ^ 32 - w) ++ (codes " (unsigned " ++ (decimal w ++ codes ")")))

-- a word that is `unsigned` or an `int`, as an index: one that is negative as an `int` is told as both
abbrev pub index_text : ℕ → List ℕ
index_text i = if is_negative i then both_text i else decimal i

-- the sign of an operator on two words, as it is written between them
abbrev pub sign_of : Op → List ℕ
sign_of O.AddS = codes " + "
sign_of O.SubS = codes " - "
sign_of O.MulS = codes " * "
sign_of O.DivS = codes " / "
sign_of O.DivU = codes " / "
sign_of O.ModS = codes " % "
sign_of O.ModU = codes " % "
sign_of O.ShlS = codes " << "
sign_of O.ShlU = codes " << "
sign_of O.ShrS = codes " >> "
sign_of O.ShrU = codes " >> "
sign_of o = codes " with "

abbrev pub is_shift : Op → Bool
is_shift O.ShlS = true
is_shift O.ShlU = true
is_shift O.ShrS = true
is_shift O.ShrU = true
is_shift o = false

-- `/` or `%`
abbrev pub is_division : Op → Bool
is_division O.DivS = true
is_division O.DivU = true
is_division O.ModS = true
is_division O.ModU = true
is_division o = false

-- an operator whose first word is `unsigned`
abbrev pub is_unsigned : Op → Bool
is_unsigned O.DivU = true
is_unsigned O.ModU = true
is_unsigned O.ShlU = true
is_unsigned O.ShrU = true
is_unsigned o = false

-- `<<` of an `int`
abbrev pub is_int_left : Op → Bool
is_int_left O.ShlS = true
is_int_left o = false

-- the first word of an operator, which is `unsigned` or an `int`
abbrev pub first_text : Op → ℕ → List ℕ
first_text o x = if is_unsigned o then decimal x else int_text x

-- X / 0 divides by zero
abbrev pub division_text : Op → ℕ → List ℕ
division_text o x = first_text o x ++ (sign_of o ++ codes "0 divides by zero")

-- X << Y shifts by no number from 0 to 31
abbrev pub shift_text : Op → ℕ → ℕ → List ℕ
shift_text o x y = first_text o x ++ (sign_of o ++ (index_text y ++ codes " shifts by no number from 0 to 31"))

-- X << Y shifts a negative number to the left
abbrev pub left_text : ℕ → ℕ → List ℕ
left_text x y = int_text x ++ (codes " << " ++ (int_text y ++ codes " shifts a negative number to the left"))

-- X + Y is out of int's range
abbrev pub range_text : Op → ℕ → ℕ → List ℕ
range_text o x y = int_text x ++ (sign_of o ++ (int_text y ++ codes " is out of int's range"))

-- an operator that has no value for two words
abbrev pub two_text : Op → ℕ → ℕ → List ℕ
two_text o x y =
    if is_shift o && nat_le 32 y then shift_text o x y
    else if is_int_left o && is_negative x then left_text x y
    else if is_division o && y == 0 then division_text o x
    else range_text o x y

-- -(X) is out of int's range
abbrev pub one_text : ℕ → List ℕ
one_text x = codes "-(" ++ (int_text x ++ codes ") is out of int's range")
