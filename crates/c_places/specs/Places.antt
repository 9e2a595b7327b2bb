-- Where a byte stands in a text.
use Rattle.std.specs.Prelude.{ℕ, ◌+◌, ◌==◌, nat_lt, if◌then◌else◌, Bool, false, List, [], ◌∷◌, take}
use Rattle.std.specs.List.{count_by}
use Rattle.c_places.specs.declared.place.Place.{Place}

-- how many line feeds there are
abbrev pub feeds : List ℕ → ℕ
feeds bytes = count_by (λ b. b == 10) bytes

-- whether the byte goes on with a character of UTF-8: those that begin one are below 128 or from 192 on
abbrev pub goes_on : ℕ → Bool
goes_on b = if nat_lt b 128 then false else nat_lt b 192

-- so many characters in front of a byte, and with it
abbrev pub with_byte : ℕ → ℕ → ℕ
with_byte b n = if goes_on b then n else n + 1

-- how many characters stand behind the last line feed, with so many in front of these
abbrev pub behind_from : ℕ → List ℕ → ℕ
behind_from n [] = n
behind_from n (b ∷ rest) = behind_from (if b == 10 then 0 else with_byte b n) rest

-- The place behind these bytes: its line is one more than the line feeds among them, its column one more than the characters behind the last.
abbrev pub behind_all : List ℕ → Place
behind_all bytes = record { line = feeds bytes + 1; column = behind_from 0 bytes + 1 }

-- the place of the byte at an offset
abbrev pub place_of : List ℕ → ℕ → Place
place_of text at = behind_all (take at text)

-- the place behind one more byte
abbrev pub after : Place → ℕ → Place
after place b = if b == 10 then (record { line = place.line + 1; column = 1 }) else record { line = place.line; column = with_byte b place.column }
