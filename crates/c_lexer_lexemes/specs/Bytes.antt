-- The bytes that a text is made of, in ASCII (C99 5.2.1 and 6.4.2.1).
use Rattle.std.specs.Prelude.{ℕ, Bool, List, nat_le, ◌==◌, ◌&&◌, ◌||◌, slice_index}
use Rattle.std.specs.Char.{is_ascii_alphanumeric, is_ascii_digit}

-- white space: the bytes from 9 to 13, and the space
abbrev pub is_white : ℕ → Bool
is_white b = (nat_le 9 b && nat_le b 13) || (b == 32)

-- a letter, a digit or the underscore
abbrev pub is_word_byte : ℕ → Bool
is_word_byte b = is_ascii_alphanumeric b || (b == 95)

-- the first byte is a digit
abbrev pub begins_with_digit : List ℕ → Bool
begins_with_digit bytes = is_ascii_digit (slice_index bytes 0)
