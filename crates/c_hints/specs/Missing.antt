-- What is missing in front of a token that does not fit.
use Rattle.std.specs.Prelude.{ℕ, Bool, false, true, not, ◌&&◌, ◌||◌, ◌==◌, nat_lt, if◌then◌else◌, List, [], slice_index, codes}
use Rattle.c_hints_words.specs.Words.{is_keyword, is_word, same, wants_value}
use Rattle.c_hints_words.specs.declared.before.Before.{Before}

-- `++` or `--`
abbrev pub is_change : List ℕ → Bool
is_change token = same token (codes "++") || same token (codes "--")

-- `)`, `]` or a character constant, which begins with a quote
abbrev pub is_closed : List ℕ → Bool
is_closed token = same token (codes ")") || (same token (codes "]") || (slice_index token 0 == 39))

-- a word that is neither `else` nor `do`
abbrev pub is_valued : List ℕ → Bool
is_valued token = is_word token && not (same token (codes "else") || same token (codes "do"))

-- a statement can end behind the token
abbrev pub can_end : List ℕ → Bool
can_end token = is_valued token || (is_closed token || is_change token)

-- the token begins a statement, whatever stands in front
abbrev pub begins_statement : List ℕ → Bool
begins_statement found = is_keyword found && not (same found (codes "else"))

-- the token ends the block, stands on a new line, or begins a statement
abbrev pub is_next : List ℕ → Bool → Before → Bool
is_next found on_new_line before = same found (codes "}")
    || ((on_new_line && is_word found) || (begins_statement found && not (is_keyword before.last.now)))

abbrev pub lacks_semicolon : List ℕ → Bool → Before → Bool
lacks_semicolon found on_new_line before = can_end before.last.now && ((before.parentheses == 0) && is_next found on_new_line before)

-- what stands in no parentheses, but in those of a `for`
abbrev pub is_behind : List ℕ → Before → Bool
is_behind found before = same found (codes "{") || (same found (codes ";") && not (same before.caller.now (codes "for")))

abbrev pub lacks_parenthesis : List ℕ → Before → Bool
lacks_parenthesis found before = nat_lt 0 before.parentheses && (can_end before.last.now && is_behind found before)

-- what stands in no brackets
abbrev pub is_outside : List ℕ → Before → Bool
is_outside found before = same found (codes ";") || (same found (codes "=") || (same found (codes ")") && nat_lt 0 before.parentheses))

abbrev pub lacks_bracket : List ℕ → Before → Bool
lacks_bracket found before = nat_lt 0 before.brackets && (can_end before.last.now && is_outside found before)

-- the mark that seems to be missing, if one is
abbrev pub missing_mark : List ℕ → Bool → Before → List ℕ
missing_mark found on_new_line before =
    if lacks_bracket found before then codes "]"
    else if lacks_parenthesis found before then codes ")"
    else if lacks_semicolon found on_new_line before then codes ";"
    else []

-- what begins no value
abbrev pub ends_value : List ℕ → Bool
ends_value found = same found (codes ";") || (same found (codes ")") || same found (codes "]"))

-- the operator behind which a value is missing, if one is
abbrev pub missing_behind : List ℕ → Before → List ℕ
missing_behind found before =
    if ends_value found && (wants_value before.last.now && not (is_change before.last.now)) then before.last.now else []

-- the mark that seems to be missing at the end of the text
abbrev pub missing_at_end : Before → List ℕ
missing_at_end before = if nat_lt 0 before.braces then codes "}" else codes ";"
