-- The keyword, the punctuator and the character constant of some bytes, as the lexer looks them up.
use Rattle.std.specs.Prelude.{ℕ, List, [], ◌∷◌, length, Option, Some, None, nat_eq, ◌==◌, ◌&&◌, option_map, if◌then◌else◌}
use Rattle.std.specs.Cmp.Lexicographic.{pointwise}
use Rattle.c_syntax.specs.declared.keyword.Keyword.{Keyword}
use Rattle.c_syntax.specs.declared.keyword.Keyword.TheVariants as words
use Rattle.c_syntax.specs.declared.punctuator.Punctuator.{Punctuator}
use Rattle.c_syntax.specs.declared.punctuator.Punctuator.TheVariants.{LeftParenthesis, RightParenthesis, LeftBrace, RightBrace, LeftBracket, RightBracket, Semicolon, Comma, Question, Colon, Assign, Equal, NotEqual, Less, Greater, LessEqual, GreaterEqual, ShiftLeft, ShiftRight, Plus, Minus, Star, Slash, Percent, And, AndAnd, Or, OrOr, Caret, Tilde, Exclamation, Increment, Decrement, PlusAssign, MinusAssign, StarAssign, SlashAssign, PercentAssign, AndAssign, OrAssign, CaretAssign, ShiftLeftAssign, ShiftRightAssign}
use Rattle.c_lexer_lexemes.specs.Characters.{is_plain, escape_of}
use Rattle.c_lexer_lexemes.specs.Keywords.{keyword_text}

-- the first of some values whose text the bytes are
abbrev pub lookup : {A : Type 0} → (A → List ℕ) → List A → List ℕ → Option A
lookup text [] bytes = None
lookup text (x ∷ xs) bytes = if pointwise nat_eq bytes (text x) then Some x else lookup text xs bytes

-- the keywords of each length
abbrev pub of_two : List Keyword
of_two = words.Do ∷ words.If ∷ []

abbrev pub of_three : List Keyword
of_three = words.For ∷ words.Int ∷ []

abbrev pub of_four : List Keyword
of_four = words.Auto ∷ words.Case ∷ words.Char ∷ words.Else ∷ words.Enum ∷ words.Goto ∷ words.Long ∷ words.Void ∷ []

abbrev pub of_five : List Keyword
of_five = words.Break ∷ words.Const ∷ words.Float ∷ words.Short ∷ words.Union ∷ words.While ∷ words.Bool ∷ []

abbrev pub of_six : List Keyword
of_six = words.Double ∷ words.Extern ∷ words.Inline ∷ words.Return ∷ words.Signed ∷ words.Sizeof ∷ words.Static ∷ words.Struct ∷ words.Switch ∷ []

abbrev pub of_seven : List Keyword
of_seven = words.Default ∷ words.Typedef ∷ []

abbrev pub of_eight : List Keyword
of_eight = words.Continue ∷ words.Register ∷ words.Restrict ∷ words.Unsigned ∷ words.Volatile ∷ words.Complex ∷ []

abbrev pub of_ten : List Keyword
of_ten = words.Imaginary ∷ []

abbrev pub keywords_of_length : ℕ → List Keyword
keywords_of_length n =
    if n == 2 then of_two
    else (if n == 3 then of_three
    else (if n == 4 then of_four
    else (if n == 5 then of_five
    else (if n == 6 then of_six
    else (if n == 7 then of_seven
    else (if n == 8 then of_eight
    else (if n == 10 then of_ten
    else [])))))))

abbrev pub keyword_of : List ℕ → Option Keyword
keyword_of bytes = lookup keyword_text (keywords_of_length (length bytes)) bytes

-- the row of a byte in a table
abbrev pub row_of : List (ℕ × Punctuator) → ℕ → Option Punctuator
row_of [] b = None
row_of (row ∷ rows) b = if b == row.0 then Some row.1 else row_of rows b

-- the punctuators of one byte
abbrev pub alone : List (ℕ × Punctuator)
alone = (40, LeftParenthesis) ∷ (41, RightParenthesis) ∷ (123, LeftBrace) ∷ (125, RightBrace) ∷ (91, LeftBracket) ∷ (93, RightBracket) ∷ (59, Semicolon) ∷ (44, Comma) ∷ (63, Question) ∷ (58, Colon) ∷ (61, Assign) ∷ (60, Less) ∷ (62, Greater) ∷ (43, Plus) ∷ (45, Minus) ∷ (42, Star) ∷ (47, Slash) ∷ (37, Percent) ∷ (38, And) ∷ (124, Or) ∷ (94, Caret) ∷ (126, Tilde) ∷ (33, Exclamation) ∷ []

-- of a byte and `=`
abbrev pub with_equals : List (ℕ × Punctuator)
with_equals = (61, Equal) ∷ (33, NotEqual) ∷ (60, LessEqual) ∷ (62, GreaterEqual) ∷ (43, PlusAssign) ∷ (45, MinusAssign) ∷ (42, StarAssign) ∷ (47, SlashAssign) ∷ (37, PercentAssign) ∷ (38, AndAssign) ∷ (124, OrAssign) ∷ (94, CaretAssign) ∷ []

-- of a byte other than `=`, twice
abbrev pub doubled : List (ℕ × Punctuator)
doubled = (60, ShiftLeft) ∷ (62, ShiftRight) ∷ (38, AndAnd) ∷ (124, OrOr) ∷ (43, Increment) ∷ (45, Decrement) ∷ []

abbrev pub pair : ℕ → ℕ → Option Punctuator
pair a b = if b == 61 then row_of with_equals a else (if b == a then row_of doubled a else None)

-- a byte twice and `=`
abbrev pub triple : ℕ → ℕ → ℕ → Option Punctuator
triple a b c =
    if (a == 60) && ((b == 60) && (c == 61)) then Some ShiftLeftAssign
    else (if (a == 62) && ((b == 62) && (c == 61)) then Some ShiftRightAssign
    else None)

-- what comes first, and with its length
abbrev pub first_of : {A : Type 0} → Option A → Option A → Option A
first_of (Some x) other = Some x
first_of None other = other

abbrev pub sized : ℕ → Option Punctuator → Option (Punctuator × ℕ)
sized n None = None
sized n (Some p) = Some (p, n)

-- the longest punctuator that three bytes begin with, and its length
abbrev pub longest_of : ℕ → ℕ → ℕ → Option (Punctuator × ℕ)
longest_of a b c = first_of (sized 3 (triple a b c)) (first_of (sized 2 (pair a b)) (sized 1 (row_of alone a)))

-- the value of the character constant whose bytes behind the quote begin so, and its length
abbrev pub character_of : ℕ → ℕ → ℕ → Option (ℕ × ℕ)
character_of a b c =
    if is_plain a && (b == 39) then Some (a, 3)
    else (if (a == 92) && (c == 39) then option_map (λ n. (n, 4)) (escape_of b)
    else None)
