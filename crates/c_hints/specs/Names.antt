-- What is said of names: of C's libraries, of one that is declared elsewhere, and of the number of arguments.
use Rattle.std.specs.Prelude.{ℕ, Bool, false, ◌||◌, ◌==◌, nat_lt, if◌then◌else◌, List, [], ◌++◌, length, codes}
use Rattle.std.specs.Fmt.{decimal}
use Rattle.c_hints_words.specs.Words.{same}

-- of the libraries' names
abbrev pub library_hint : List ℕ → List ℕ
library_hint name =
    if same name (codes "putchar") then codes "write its prototype in front of the functions: `int putchar(int);`"
    else if same name (codes "printf") || same name (codes "puts") then codes "the only library function is `putchar`: print each character by it"
    else if same name (codes "getchar") || same name (codes "scanf") then codes "there is no input"
    else if same name (codes "malloc") then codes "there is no memory to be asked for: declare a global array"
    else if same name (codes "true") then codes "write `1`"
    else if same name (codes "false") then codes "write `0`"
    else []

-- a name in quotes
abbrev pub name_text : List ℕ → List ℕ → List ℕ
name_text found behind = codes "`" ++ (found ++ behind)

-- not declared
abbrev pub undeclared_text : List ℕ → List ℕ
undeclared_text found = name_text found (codes "` is not declared")

-- not declared, and what is said of it, if anything
abbrev pub library_text : List ℕ → List ℕ → List ℕ
library_text found words = if length words == 0 then undeclared_text found else name_text found (codes "` is not declared: " ++ words)

-- not declared, but a name much like it
abbrev pub near_text : List ℕ → List ℕ → List ℕ
near_text found near = name_text found (codes "` is not declared: is `" ++ (near ++ codes "` meant?"))

-- declared behind, in this line
abbrev pub behind_text : List ℕ → ℕ → List ℕ
behind_text found line = name_text found (codes "` is declared in line " ++ (decimal line ++ codes ": declare it in front of here"))

-- declared before, in this line
abbrev pub second_text : List ℕ → ℕ → List ℕ
second_text found line = name_text found (codes "` is declared in line " ++ (decimal line ++ codes " already"))

-- how the number of arguments differs
abbrev pub kind_of : ℕ → ℕ → List ℕ
kind_of wanted given = if nat_lt given wanted then codes "few" else codes "many"

abbrev pub count_text : List ℕ → ℕ → ℕ → List ℕ
count_text found wanted given = codes "too " ++ (kind_of wanted given ++ (codes " arguments to `" ++ (found
    ++ (codes "`: " ++ (decimal wanted ++ (codes " expected, " ++ (decimal given ++ codes " given")))))))
