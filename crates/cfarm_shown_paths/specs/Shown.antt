-- A path as it is shown: each control character (the Unicode class Cc) as a backslash, an x and the two hexadecimal digits of its code.
use Rattle.std.specs.Prelude.{◌≡◌, ℕ, ◌/◌, ◌%◌, false, if◌then◌else◌, List, ◌++◌, All, flat_map, chars, codes, encode_utf8}
use Rattle.std.specs.Char.{digit_char, is_control}

-- the bytes of such a code
abbrev pub escaped : ℕ → List ℕ
escaped c = codes "\\x" ++ (encode_utf8 (digit_char (c / 16 % 16)) ++ encode_utf8 (digit_char (c % 16)))

-- what is shown of a character
abbrev pub shown_char : ℕ → List ℕ
shown_char c = if is_control c then escaped c else encode_utf8 c

abbrev pub shown_path : List ℕ → List ℕ
shown_path path = flat_map shown_char (chars path)

-- a text has no control character
abbrev pub IsPlain : List ℕ → Type 0
IsPlain text = All (λ c. is_control c ≡ false) (chars text)
