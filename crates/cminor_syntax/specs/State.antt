-- The words that a running function of Cminor works on (Leroy 2009, section 3.1: environments and memory states).
use Rattle.std.specs.Prelude.{ℕ, List, Option, Some, None, slice_get, slice_set, slice_index_or, nat_lt, length, option_and_then, if◌then◌else◌}
use Rattle.std.specs.Option.{option_map}

-- the variables of the running function, each a word or undefined; the cells of each global; the bytes printed so far
pub record State : Type 0 where
  pub variables : List (Option ℕ)
  pub globals : List (List ℕ)
  pub output : List ℕ

-- what a variable holds
abbrev pub held : ℕ → State → Option ℕ
held v s = slice_index_or s.variables v None

-- the state where a variable, if one is named, holds this
abbrev pub given : Option ℕ → Option ℕ → State → State
given None value s = s
given (Some v) value s = record s { variables = slice_set s.variables v value }

-- a cell of a global: none where there is no such global, or the index is not below its size
abbrev pub cell : List (List ℕ) → ℕ → ℕ → Option ℕ
cell globals g i = option_and_then (λ cells. slice_get cells i) (slice_get globals g)

-- the cells where one holds this word, if the index is below their number
abbrev pub put_in : ℕ → ℕ → List ℕ → Option (List ℕ)
put_in i w cells = if nat_lt i (length cells) then Some (slice_set cells i w) else None

-- the globals where a cell holds this word, if it is there
abbrev pub put_cell : List (List ℕ) → ℕ → ℕ → ℕ → Option (List (List ℕ))
put_cell globals g i w = option_map (slice_set globals g) (option_and_then (put_in i w) (slice_get globals g))
