-- Words of 32 bits, and the whole numbers that they stand for (C99 6.2.5, 6.2.6.2 and 6.3.1.3).
-- A word is a number below 2 ^ 32. As an `unsigned int` it stands for itself, and as an `int` it is read in
-- two's complement.
use Rattle.std.specs.Prelude.{ℕ, ◌-◌, ◌%◌, ◌^◌, Bool, ◌&&◌, if◌then◌else◌, nat_lt, ℤ, pos, negsuc, ◌-ℤ◌, neg_ℤ, int_le, int_lt}
use Rattle.std.specs.Int.{int_div_euclid}

-- the number that a word stands for as an `int`: from 2 ^ 31 on it is 2 ^ 32 less
abbrev pub signed : ℕ → ℤ
signed w = if nat_lt w (2 ^ 31) then pos w else (pos w -ℤ pos (2 ^ 32))

-- the word that is a whole number modulo 2 ^ 32; -(n + 1) is that far below 2 ^ 32
abbrev pub wrapped : ℤ → ℕ
wrapped (pos n) = n % 2 ^ 32
wrapped (negsuc n) = 2 ^ 32 - 1 - n % 2 ^ 32

-- an `int` holds the number: it lies from -(2 ^ 31) to 2 ^ 31 - 1
abbrev pub is_int : ℤ → Bool
is_int z = int_le (neg_ℤ (pos (2 ^ 31))) z && int_lt z (pos (2 ^ 31))

-- a quotient rounded down
abbrev pub floor_of : ℤ → ℕ → ℤ
floor_of z d = int_div_euclid z (pos d)

-- the truth of a comparison as an `int`
abbrev pub flag : Bool → ℕ
flag b = if b then 1 else 0
