-- Which forms stand in front of a token.
use Rattle.std.specs.Prelude.{ℕ, Bool, false, true, not, ◌&&◌, ◌||◌, ◌==◌, nat_lt, if◌then◌else◌, List, length, codes}
use Rattle.c_hints_words.specs.Words.{is_head, is_type, is_word, same}
use Rattle.c_hints_words.specs.declared.before.Before.{Before}

-- no statement and no declaration is begun
abbrev pub is_nothing_begun : Before → Bool
is_nothing_begun before = (same before.last.now (codes ";") && (before.parentheses == 0))
    || (same before.last.now (codes "{") || (same before.last.now (codes "}") || (length before.last.now == 0)))

-- a call of a name, whole
abbrev pub is_behind_call : Before → Bool
is_behind_call before = same before.last.now (codes ")") && ((before.parentheses == 0)
    && (is_word before.caller.now && not (is_head before.caller.now || same before.caller.now (codes "return"))))

-- in a declaration
abbrev pub is_declared : Before → Bool
is_declared before = is_type before.first.now

-- in a declaration in a function
abbrev pub is_local : Before → Bool
is_local before = is_declared before && nat_lt 0 before.braces

-- the statement is a name alone
abbrev pub is_name_alone : Before → Bool
is_name_alone before = is_word before.last.now && same before.first.now before.last.now

-- the word in front that may be a keyword
abbrev pub word_in_front : Before → List ℕ
word_in_front before = if nat_lt 0 before.parentheses then before.caller.now else before.last.now
