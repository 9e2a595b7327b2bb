-- The words that hints go by.
use Rattle.std.specs.Prelude.{ℕ, Bool, false, true, not, ◌&&◌, ◌||◌, ◌==◌, if◌then◌else◌, List, length, nat_eq, slice_index, codes}
use Rattle.std.specs.Str.{str_eq_ignore_ascii_case}
use Rattle.std.specs.Cmp.Lexicographic.{pointwise}
use Rattle.c_lexer_lexemes.specs.Bytes.{is_word_byte}

-- whether the word is this text
abbrev pub same : List ℕ → List ℕ → Bool
same word text = pointwise nat_eq word text

-- the first text, or the second where that is empty
abbrev pub or_else : List ℕ → List ℕ → List ℕ
or_else first second = if length first == 0 then second else first

-- a name, a keyword or a number
abbrev pub is_word : List ℕ → Bool
is_word token = is_word_byte (slice_index token 0)

-- the types of the language
abbrev pub is_type : List ℕ → Bool
is_type word = same word (codes "int") || (same word (codes "unsigned") || same word (codes "void"))

-- keywords that parentheses follow
abbrev pub is_head : List ℕ → Bool
is_head word = same word (codes "if") || (same word (codes "while") || same word (codes "for"))

-- its other keywords, but for those
abbrev pub is_other : List ℕ → Bool
is_other word = same word (codes "else") || (same word (codes "do") || (same word (codes "return")
    || (same word (codes "break") || same word (codes "continue"))))

-- a keyword of the language
abbrev pub is_keyword : List ℕ → Bool
is_keyword word = is_type word || (is_head word || is_other word)

-- what parentheses follow in C
abbrev pub is_headed : List ℕ → Bool
is_headed word = same word (codes "if") || (same word (codes "while") || (same word (codes "for") || same word (codes "switch")))

-- the word is the keyword, but for capitals
abbrev pub is_as : List ℕ → List ℕ → Bool
is_as word keyword = not (same word keyword) && str_eq_ignore_ascii_case word keyword

-- operators that assign
abbrev pub assigns_more : List ℕ → Bool
assigns_more found = same found (codes "+=") || (same found (codes "-=") || (same found (codes "*=")
    || (same found (codes "/=") || same found (codes "%="))))

abbrev pub assigns_bits : List ℕ → Bool
assigns_bits found = same found (codes "<<=") || (same found (codes ">>=") || (same found (codes "&=")
    || (same found (codes "^=") || same found (codes "|="))))

abbrev pub is_assignment : List ℕ → Bool
is_assignment found = same found (codes "=") || (assigns_more found || assigns_bits found)

-- the first bytes of operators of numbers, in ASCII: + - * / %
abbrev pub begins_sum : ℕ → Bool
begins_sum b = (b == 43) || ((b == 45) || ((b == 42) || ((b == 47) || (b == 37))))

-- of comparisons, of bits and of choices: < > = ! & | ^ ?
abbrev pub begins_test : ℕ → Bool
begins_test b = (b == 60) || ((b == 62) || ((b == 61) || ((b == 33) || ((b == 38) || ((b == 124) || ((b == 94) || (b == 63)))))))

-- operators with a left operand
abbrev pub is_operator : List ℕ → Bool
is_operator found = begins_sum (slice_index found 0) || begins_test (slice_index found 0)

-- and those behind which a value stands, : and ~ among them
abbrev pub wants_value : List ℕ → Bool
wants_value token = is_operator token || ((slice_index token 0 == 58) || (slice_index token 0 == 126))
