-- What is said of keywords of C that are in no text (C99 6.4.1).
use Rattle.std.specs.Prelude.{ℕ, Bool, ◌||◌, if◌then◌else◌, List, [], codes}
use Rattle.c_hints_words.specs.Words.{same}

-- types
abbrev pub is_foreign_type : List ℕ → Bool
is_foreign_type word = same word (codes "char") || (same word (codes "short") || (same word (codes "long")
    || (same word (codes "float") || (same word (codes "double") || (same word (codes "signed")
    || (same word (codes "_Bool") || (same word (codes "_Complex") || same word (codes "_Imaginary"))))))))

-- what makes types
abbrev pub is_type_maker : List ℕ → Bool
is_type_maker word = same word (codes "typedef") || (same word (codes "struct") || (same word (codes "union") || same word (codes "enum")))

-- what chooses
abbrev pub is_choice : List ℕ → Bool
is_choice word = same word (codes "switch") || (same word (codes "case") || same word (codes "default"))

-- what stands in front of a declaration
abbrev pub is_class : List ℕ → Bool
is_class word = same word (codes "static") || (same word (codes "const") || (same word (codes "extern")
    || (same word (codes "auto") || (same word (codes "register") || (same word (codes "volatile") || same word (codes "inline"))))))

-- what is said of the word, if it is one of these
abbrev pub keyword_hint : List ℕ → List ℕ
keyword_hint word =
    if is_foreign_type word then codes "not in this language: its types are `int` and `unsigned`"
    else if is_type_maker word then codes "not in this language: there are no types of one's own"
    else if is_choice word then codes "not in this language: write `if` and `else`"
    else if same word (codes "goto") then codes "not in this language: write a loop, `break` or `continue`"
    else if same word (codes "sizeof") then codes "not in this language: write the number of cells"
    else if is_class word then codes "not in this language: leave it out"
    else []
