-- What a cause is told as, with the values of the state in which it is found.
use Rattle.std.specs.Prelude.{ℕ, ◌==◌, ◌&&◌, ◌||◌, Bool, if◌then◌else◌, List, [], ◌∷◌, ◌++◌, drop, nat_le, codes, slice_get, Option, Some, None}
use Rattle.std.specs.Fmt.{decimal}
use Rattle.c_program.specs.declared.function.GlobalVariable.{GlobalVariable}
use Rattle.c_faults.specs.declared.cause.Cause.{Cause}
use Rattle.c_faults.specs.declared.cause.Cause.TheVariants.{Unset, Past, One, Two, NoReturn, Malformed}
use Rattle.cfarm_explain_words.specs.Operators.{index_text, one_text, two_text}

-- a letter, a digit or `_`
abbrev pub is_name_byte : ℕ → Bool
is_name_byte b = (nat_le 97 b && nat_le b 122) || (nat_le 65 b && nat_le b 90) || (nat_le 48 b && nat_le b 57) || b == 95

-- the name that bytes begin with
abbrev pub leading_name : List ℕ → List ℕ
leading_name [] = []
leading_name (b ∷ rest) = if is_name_byte b then b ∷ leading_name rest else []

-- the name that stands at an offset of a text
abbrev pub name_at : List ℕ → ℕ → List ℕ
name_at text at = leading_name (drop at text)

abbrev pub cells_of : Option GlobalVariable → ℕ
cells_of None = 0
cells_of (Some g) = g.cells

abbrev pub size_of : List GlobalVariable → ℕ → ℕ
size_of globals g = cells_of (slice_get globals g)

-- index I is not below N, the size of NAME
abbrev pub past_text : List ℕ → ℕ → ℕ → List ℕ
past_text name i size = codes "index " ++ (index_text i ++ (codes " is not below " ++ (decimal size ++ (codes ", the size of " ++ name))))

-- A cause, by the name that stands at its place.
abbrev pub cause_text : List GlobalVariable → List ℕ → Cause → List ℕ
cause_text globals name Unset = name ++ codes " is read before it is set"
cause_text globals name (Past g i) = past_text name i (size_of globals g)
cause_text globals name (One o x) = one_text x
cause_text globals name (Two o x y) = two_text o x y
cause_text globals name NoReturn = codes "a function with a value ends here and returns none"
cause_text globals name Malformed = codes "this stands for nothing"
