-- What is said of bytes that begin no token, and of numbers that fit no type.
use Rattle.std.specs.Prelude.{ℕ, Bool, false, true, ◌&&◌, ◌||◌, ◌==◌, ◌-◌, nat_lt, if◌then◌else◌, List, [], length, slice_index, codes}
use Rattle.std.specs.Char.{is_ascii_digit}
use Rattle.std.specs.List.{list_all}
use Rattle.std.specs.Cmp.Lexicographic.{slice_cmp}
use Rattle.std.specs.Ordering.{nat_cmp}
use Rattle.std.specs.declared.cmp.Ordering.{Ordering}
use Rattle.std.specs.declared.cmp.Ordering.TheVariants.{Less, Equal, Greater}
use Rattle.c_hints_words.specs.Words.{same}

-- what is said of a byte, and of the word behind it
abbrev pub byte_hint : List ℕ → List ℕ → List ℕ
byte_hint found behind =
    if same found (codes "#") && same behind (codes "define") then codes "there is no preprocessor: write a global in place of the constant, `int n = 8;`"
    else if same found (codes "#") then codes "there is no preprocessor: write the prototypes, `int putchar(int);`"
    else if same found (codes "\"") then codes "there are no strings: print each character, `putchar('h');`"
    else if same found (codes ".") then codes "there are no floating constants, no members and no variable arguments"
    else if same found (codes "\\") then codes "there are no line splices"
    else []

abbrev pub is_not_greater : Ordering → Bool
is_not_greater Less = true
is_not_greater Equal = true
is_not_greater Greater = false

-- `0b` or `0B` in front
abbrev pub is_binary : List ℕ → Bool
is_binary found = (slice_index found 0 == 48) && ((slice_index found 1 == 98) || (slice_index found 1 == 66))

-- `l` or `L` behind
abbrev pub is_long : List ℕ → Bool
is_long found = (slice_index found (length found - 1) == 108) || (slice_index found (length found - 1) == 76)

-- decimal digits alone
abbrev pub is_decimal : List ℕ → Bool
is_decimal found = list_all is_ascii_digit found

-- decimal digits without 0 in front that say no more than the largest word
abbrev pub is_word_sized : List ℕ → Bool
is_word_sized digits = nat_lt (length digits) 10
    || ((length digits == 10) && is_not_greater (slice_cmp nat_cmp digits (codes "4294967295")))

-- what is said of a number that fits no type, or has more behind it
abbrev pub number_hint : List ℕ → List ℕ
number_hint found =
    if is_binary found then codes "there are no binary constants: write it in hexadecimal, `0x5`"
    else if is_long found then codes "there is no `long`: leave out the `L`"
    else if is_decimal found && (slice_index found 0 == 48) then codes "a number that begins with 0 is octal: leave out the 0"
    else if is_decimal found && is_word_sized found then codes "more than an `int` holds: with a `u` behind it, it is `unsigned`"
    else if is_decimal found then codes "more than a word holds, which is at most 4294967295u"
    else []
