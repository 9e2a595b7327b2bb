-- Which limit of the language the name of a declaration passes.
use Rattle.std.specs.Prelude.{ℕ, Bool, false, nat_lt, if◌then◌else◌, List, length, codes}
use Rattle.c_hints_words.specs.Words.{same}
use Rattle.c_hints_words.specs.declared.before.Before.{Before}

-- what is said of the name, by the token behind it and those in front
abbrev pub limit_hint : List ℕ → List ℕ → Before → List ℕ
limit_hint found behind before =
    if nat_lt 255 (length found) then codes "a name has at most 255 letters"
    else if same behind (codes "[") then codes "an array has 1 to 65,536 cells, and all globals have at most 65,536, at most 1,024 of them"
    else if nat_lt 0 before.parentheses then codes "a function has at most 16 parameters"
    else if nat_lt 0 before.braces then codes "a function has at most 256 variables of its own, its parameters among them"
    else if same behind (codes "(") then codes "there are at most 64 functions with bodies"
    else codes "there are at most 1,024 globals, with at most 65,536 cells"
