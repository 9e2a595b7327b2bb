-- The table of hints: what is said of each fault beside its sentence.
use Rattle.std.specs.Prelude.{◌≡◌, ◌⊎◌, ℕ, Bool, false, true, ◌==◌, ◌&&◌, if◌then◌else◌, List, [], ◌++◌, length, slice_index, codes}
use Rattle.c_places.specs.Places.{place_of}
use Rattle.c_hints.specs.Limits.{limit_hint}
use Rattle.c_hints.specs.Missing.{missing_at_end, missing_behind, missing_mark}
use Rattle.c_hints.specs.Names.{behind_text, count_text, library_hint, library_text, near_text, second_text, undeclared_text}
use Rattle.c_hints.specs.Numbers.{byte_hint, number_hint}
use Rattle.c_hints_words.specs.Standing.{StandsAt}
use Rattle.c_hints.specs.Syntax.{token_hint}
use Rattle.c_hints_words.specs.declared.before.Before.{Before}

-- what was found, in quotes, and what is said of it; nothing where that is nothing
abbrev pub quoted : List ℕ → List ℕ → List ℕ
quoted found words = if length words == 0 then [] else codes "`" ++ (found ++ (codes "`: " ++ words))

-- what was found, behind what, and the mark that seems to be missing between
abbrev pub missing_text : List ℕ → List ℕ → List ℕ → List ℕ
missing_text found statement mark = codes "`" ++ (found ++ (codes "` after `" ++ (statement ++ (codes "`: is `" ++ (mark ++ codes "` missing?")))))

-- the mark that seems to be missing where the text ends
abbrev pub end_text : List ℕ → List ℕ
end_text mark = codes "the text ends: is `" ++ (mark ++ codes "` missing?")

-- what was found in place of a value, and behind which operator
abbrev pub value_text : List ℕ → List ℕ → List ℕ
value_text found last = codes "`" ++ (found ++ (codes "`: a value is missing behind `" ++ (last ++ codes "`")))

-- of a token that does not fit and lacks no mark in front
abbrev pub unfit_text : List ℕ → Before → List ℕ
unfit_text found before =
    if length (missing_behind found before) == 0 then quoted found (token_hint found before) else value_text found (missing_behind found before)

-- of a token that does not fit, or of the end of the text
abbrev pub syntax_text : List ℕ → List ℕ → Bool → Before → List ℕ
syntax_text found statement on_new_line before =
    if length (missing_mark found on_new_line before) == 0
    then (if length found == 0 then end_text (missing_at_end before) else unfit_text found before)
    else missing_text found statement (missing_mark found on_new_line before)

abbrev pub character_text : List ℕ
character_text = codes "a character constant is one character in quotes, or `\\n`, `\\t`, `\\0`, `\\\\`, `\\'`, `\\\"`"

abbrev pub byte_order_text : List ℕ
byte_order_text = codes "a byte order mark stands in front: save the text without it"

-- the mark of the byte order of UTF-8 stands in front
abbrev pub has_byte_order : List ℕ → Bool
has_byte_order text = (slice_index text 0 == 239) && ((slice_index text 1 == 187) && (slice_index text 2 == 191))

-- What is said of a fault of this number where this was found: a row for each number and form. Of other numbers nothing is.
pub data IsSaid (text : List ℕ) (number : ℕ) (found hint : List ℕ) : Type 0 where
  of_byte_order : number ≡ 201 → has_byte_order text ≡ true → hint ≡ byte_order_text → IsSaid text number found hint
  of_byte : number ≡ 201 → (behind : List ℕ) → hint ≡ quoted found (byte_hint found behind) → IsSaid text number found hint
  of_number : number ≡ 203 → hint ≡ quoted found (number_hint found) → IsSaid text number found hint
  of_character : number ≡ 204 → hint ≡ character_text → IsSaid text number found hint
  of_token : number ≡ 210 → (statement : List ℕ) (on_new_line : Bool) (before : Before) → hint ≡ syntax_text found statement on_new_line before → IsSaid text number found hint
  of_library : number ≡ 220 → hint ≡ library_text found (library_hint found) → IsSaid text number found hint
  of_near : number ≡ 220 → (at : ℕ) (near : List ℕ) → StandsAt text at near → hint ≡ near_text found near → IsSaid text number found hint
  of_behind : number ≡ 220 → (at : ℕ) → StandsAt text at found → hint ≡ behind_text found (place_of text at).line → IsSaid text number found hint
  of_undeclared : number ≡ 220 → hint ≡ undeclared_text found → IsSaid text number found hint
  of_second : number ≡ 221 → (at : ℕ) → StandsAt text at found → hint ≡ second_text found (place_of text at).line → IsSaid text number found hint
  of_count : number ≡ 222 → (wanted given : ℕ) → hint ≡ count_text found wanted given → IsSaid text number found hint
  of_limit : number ≡ 228 → (behind : List ℕ) (before : Before) → hint ≡ quoted found (limit_hint found behind before) → IsSaid text number found hint

-- no hint, or that of a row
abbrev pub IsHintOf : (text : List ℕ) → ℕ → List ℕ → List ℕ → Type 0
IsHintOf text number found hint = (hint ≡ []) ⊎ IsSaid text number found hint

-- a hint of a fault of this number at an offset of the text: what was found stands there
abbrev pub IsHint : (text : List ℕ) → (at number : ℕ) → List ℕ → Type 0
IsHint text at number hint = (found : List ℕ) × StandsAt text at found × IsHintOf text number found hint
