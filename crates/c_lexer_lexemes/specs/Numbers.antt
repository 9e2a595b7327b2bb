-- The integer constants (C99 6.4.4.1), with values of 32 bits and the suffix `u` or `U` alone.
use Rattle.std.specs.Prelude.{ℕ, ◌+◌, ◌-◌, ◌*◌, ◌^◌, Bool, List, [], ◌∷◌, length, take, drop, Option, Some, None, nat_lt, nat_le, ◌==◌, ◌&&◌, ◌||◌, if◌then◌else◌, slice_index, option_map, option_and_then}
use Rattle.std.specs.List.{list_all}
use Rattle.std.specs.Char.{is_ascii_digit}
use Rattle.c_syntax.specs.declared.constant.Constant.{Constant}
use Rattle.c_syntax.specs.declared.constant.IntegerType.{IntegerType}
use Rattle.c_syntax.specs.declared.constant.IntegerType.TheVariants.{Int, Unsigned}

-- what a byte is worth as a digit; 16 where it is none in any base
abbrev pub digit_worth : ℕ → ℕ
digit_worth b =
    if is_ascii_digit b then b - 48
    else (if nat_le 97 b && nat_le b 102 then b - 87
    else (if nat_le 65 b && nat_le b 70 then b - 55
    else 16))

abbrev pub is_digit_of : ℕ → ℕ → Bool
is_digit_of base b = nat_lt (digit_worth b) base

-- the number that digits stand for, each worth the base to the power of its place
abbrev pub worth : ℕ → List ℕ → ℕ
worth base [] = 0
worth base (d ∷ ds) = digit_worth d * base ^ length ds + worth base ds

-- the number below 2^32 that one digit or more of a base stand for
abbrev pub number_of : ℕ → List ℕ → Option ℕ
number_of base ds =
    if nat_lt 0 (length ds) && (list_all (is_digit_of base) ds && nat_lt (worth base ds) (2 ^ 32)) then Some (worth base ds) else None

-- `0x` or `0X`
abbrev pub is_hexadecimal : List ℕ → Bool
is_hexadecimal w = (slice_index w 0 == 48) && ((slice_index w 1 == 120) || (slice_index w 1 == 88))

-- any other that begins with 0 is octal, also 0 alone
abbrev pub begins_with_zero : List ℕ → Bool
begins_with_zero w = slice_index w 0 == 48

-- the number that a word without its suffix stands for
abbrev pub magnitude_of : List ℕ → Option ℕ
magnitude_of w =
    if is_hexadecimal w then number_of 16 (drop 2 w)
    else (if begins_with_zero w then number_of 8 w
    else number_of 10 w)

-- the word ends with the suffix
abbrev pub is_suffixed : List ℕ → Bool
is_suffixed w = (slice_index w (length w - 1) == 117) || (slice_index w (length w - 1) == 85)

-- the word before its suffix, or the whole of it
abbrev pub without_suffix : List ℕ → List ℕ
without_suffix w = if is_suffixed w then take (length w - 1) w else w

-- A constant has the first of these types that its value fits.
abbrev pub types_of : List ℕ → List IntegerType
types_of w =
    if is_suffixed w then Unsigned ∷ []
    else (if begins_with_zero w then Int ∷ Unsigned ∷ []
    else Int ∷ [])

-- the values of a type are below it
abbrev pub limit_of : IntegerType → ℕ
limit_of Int = 2 ^ 31
limit_of Unsigned = 2 ^ 32

abbrev pub first_type : List IntegerType → ℕ → Option IntegerType
first_type [] n = None
first_type (t ∷ ts) n = if nat_lt n (limit_of t) then Some t else first_type ts n

-- a number of its type, where it fits one
abbrev pub typed : List ℕ → ℕ → Option Constant
typed w n = option_map (λ t. record { value = n; kind = t }) (first_type (types_of w) n)

-- the constant that a word spells, if it spells one
abbrev pub constant_of : List ℕ → Option Constant
constant_of w = option_and_then (typed w) (magnitude_of (without_suffix w))
