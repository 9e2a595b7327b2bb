-- The words that a running function of C works on (C99 6.2.4: objects with static and automatic storage).
use Rattle.std.specs.Prelude.{ℕ, List, [], ◌∷◌, Option, Some, None, slice_get, slice_set, nat_lt, length, option_and_then, if◌then◌else◌}
use Rattle.std.specs.Option.{option_map}
use Rattle.c_program.specs.Trees.{TermTree}
use Rattle.c_program.specs.Values.{Variables, value}

-- the locals of the running function, each a word or indeterminate; the cells of each global; the bytes printed so far
pub record State : Type 0 where
  pub locals : List (Option ℕ)
  pub globals : List (List ℕ)
  pub output : List ℕ

-- what expressions read
abbrev pub variables : State → Variables
variables s = record { locals = s.locals; globals = s.globals }

-- the word that an expression gives
abbrev pub word : TermTree → State → Option ℕ
word e s = value (variables s) e

-- a word before others
abbrev pub before : Option ℕ → Option (List ℕ) → Option (List ℕ)
before None ws = None
before (Some w) None = None
before (Some w) (Some ws) = Some (w ∷ ws)

-- the words of arguments, in order: none of them is indeterminate
abbrev pub words : List TermTree → State → Option (List ℕ)
words [] s = Some []
words (e ∷ es) s = before (word e s) (words es s)

-- the state where a local holds this
abbrev pub with_local : ℕ → Option ℕ → State → State
with_local n value s = record s { locals = slice_set s.locals n value }

-- the cells where one holds this word, if the index is below their number
abbrev pub put_in : ℕ → ℕ → List ℕ → Option (List ℕ)
put_in i w cells = if nat_lt i (length cells) then Some (slice_set cells i w) else None

-- the globals where a cell holds this word, if it is there
abbrev pub put_cell : List (List ℕ) → ℕ → ℕ → ℕ → Option (List (List ℕ))
put_cell globals g i w = option_map (slice_set globals g) (option_and_then (put_in i w) (slice_get globals g))
