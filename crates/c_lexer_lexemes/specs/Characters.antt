-- The character constants (C99 6.4.4.4), of one ASCII character or one of six escapes.
use Rattle.std.specs.Prelude.{◌≡◌, ℕ, Bool, List, [], ◌∷◌, Option, Some, None, nat_le, ◌==◌, ◌&&◌, not, if◌then◌else◌, IsTrue}

-- what stands for itself between the quotes: neither the quote (39) nor the backslash (92)
abbrev pub is_plain : ℕ → Bool
is_plain c = nat_le 32 c && (nat_le c 126 && (not (c == 39) && not (c == 92)))

-- what a byte behind the backslash stands for: `n`, `t`, `0`, `\`, `'` and `"`
abbrev pub escape_of : ℕ → Option ℕ
escape_of e =
    if e == 110 then Some 10
    else (if e == 116 then Some 9
    else (if e == 48 then Some 0
    else (if e == 92 then Some 92
    else (if e == 39 then Some 39
    else (if e == 34 then Some 34
    else None)))))

-- The bytes are a character constant of this value.
pub data IsCharacter (bytes : List ℕ) (n : ℕ) : Type 0 where
  plain : IsTrue (is_plain n) → bytes ≡ 39 ∷ n ∷ 39 ∷ [] → IsCharacter bytes n
  escape : (e : ℕ) → escape_of e ≡ Some n → bytes ≡ 39 ∷ 92 ∷ e ∷ 39 ∷ [] → IsCharacter bytes n
