-- What is said of a token that does not fit, by what stands in front.
use Rattle.std.specs.Prelude.{ℕ, Bool, false, true, not, ◌&&◌, ◌||◌, ◌==◌, nat_lt, if◌then◌else◌, List, [], codes}
use Rattle.c_hints_words.specs.Words.{is_as, is_assignment, is_headed, is_keyword, is_operator, is_type, is_word, or_else, same}
use Rattle.c_hints_words.specs.Forms.{is_behind_call, is_declared, is_local, is_name_alone, is_nothing_begun, word_in_front}
use Rattle.c_hints_words.specs.declared.before.Before.{Before}
use Rattle.c_hints.specs.Keywords.{keyword_hint}

-- a call in an expression, or in a place where no call stands
abbrev pub call_hint : List ℕ
call_hint = codes "a call stands in no expression: give it a line of its own, `r = f(x);`"

-- marks that fit nowhere
abbrev pub mark_hint : List ℕ → List ℕ
mark_hint found =
    if same found (codes "++") || same found (codes "--") then codes "a change stands in no expression: give it a line of its own, `i++;`"
    else if same found (codes ":") then codes "there are no labels"
    else []

-- a closing brace
abbrev pub brace_hint : Before → List ℕ
brace_hint before =
    if before.braces == 0 then codes "no `{` is open"
    else if same before.last.now (codes ",") then codes "no comma stands behind the last initial word"
    else []

-- a closing parenthesis, bracket or brace
abbrev pub closing_hint : List ℕ → Before → List ℕ
closing_hint found before =
    if same found (codes ")") && (same before.last.now (codes "(") && is_declared before) then codes "where there are no parameters, write `(void)`"
    else if same found (codes "]") && (same before.last.now (codes "[") && is_declared before) then codes "write the number of cells, `int t[3] = {1, 2, 3};`"
    else if same found (codes "}") then brace_hint before
    else []

-- the condition of an `if` or a `while`
abbrev pub is_asked : Before → Bool
is_asked before = (same before.caller.now (codes "if") || same before.caller.now (codes "while")) && nat_lt 0 before.parentheses

-- an operator that assigns
abbrev pub assignment_hint : List ℕ → Before → List ℕ
assignment_hint found before =
    if same found (codes "=") && is_asked before then codes "an assignment: to compare, write `==`"
    else codes "an assignment stands in no expression: give it a line of its own"

-- `*` behind a type, and `&` behind no word
abbrev pub is_pointer : List ℕ → Before → Bool
is_pointer found before = (same found (codes "*") && is_type before.last.now) || (same found (codes "&") && not (is_word before.last.now))

-- another operator
abbrev pub operator_hint : List ℕ → Before → List ℕ
operator_hint found before =
    if same found (codes "==") && is_name_alone before then codes "this compares, and a comparison is no statement: to assign, write `=`"
    else if is_pointer found before then codes "there are no pointers"
    else if is_behind_call before then call_hint
    else []

-- a word where a statement or a declaration begins
abbrev pub begin_hint : List ℕ → Before → List ℕ
begin_hint found before =
    if same found (codes "else") then codes "no `if` stands in front whose `else` this could be"
    else if (before.braces == 0) && not (is_keyword found) then codes "no type: types are `int` and `unsigned`"
    else []

-- a word
abbrev pub word_hint : List ℕ → Before → List ℕ
word_hint found before =
    if is_headed before.last.now then codes "parentheses are missing: `if (x < 3)`, `while (x < 3)`"
    else if is_type before.last.now && is_keyword found then codes "a keyword is no name"
    else if is_name_alone before && not (is_keyword before.last.now) then codes "what stands before it is no type: types are `int` and `unsigned`"
    else if is_nothing_begun before then begin_hint found before
    else []

-- `(`
abbrev pub parenthesis_hint : Before → List ℕ
parenthesis_hint before =
    if is_local before && is_type before.second.now then codes "no function stands in a function: declare it outside of all functions"
    else if is_word before.last.now then call_hint
    else if is_nothing_begun before then codes "no statement begins with a parenthesis"
    else []

-- `[`
abbrev pub bracket_hint : Before → List ℕ
bracket_hint before =
    if same before.last.now (codes "]") then codes "there are no arrays of arrays"
    else if is_local before then codes "no array stands in a function: declare it outside of all functions"
    else []

-- `,`
abbrev pub comma_hint : Before → List ℕ
comma_hint before =
    if is_declared before && (before.parentheses == 0) then codes "a declaration has one name: `int a; int b;`"
    else codes "there is no comma operator"

-- one of these three
abbrev pub list_hint : List ℕ → Before → List ℕ
list_hint found before =
    if same found (codes "(") then parenthesis_hint before
    else if same found (codes "[") then bracket_hint before
    else if same found (codes ",") then comma_hint before
    else []

-- by the kind of the token
abbrev pub kind_hint : List ℕ → Before → List ℕ
kind_hint found before =
    if is_assignment found then assignment_hint found before
    else if is_operator found then operator_hint found before
    else if is_word found then word_hint found before
    else list_hint found before

-- a word with capitals that is a keyword without
abbrev pub capitals_hint : List ℕ → List ℕ
capitals_hint word =
    if is_as word (codes "if") then codes "keywords have no capitals: write `if`"
    else if is_as word (codes "while") then codes "keywords have no capitals: write `while`"
    else if is_as word (codes "for") then codes "keywords have no capitals: write `for`"
    else if is_as word (codes "return") then codes "keywords have no capitals: write `return`"
    else if is_as word (codes "int") then codes "keywords have no capitals: write `int`"
    else []

-- what is said of the token, if anything
abbrev pub token_hint : List ℕ → Before → List ℕ
token_hint found before =
    or_else (keyword_hint found) (or_else (capitals_hint (word_in_front before))
    (or_else (mark_hint found) (or_else (closing_hint found before) (kind_hint found before))))
