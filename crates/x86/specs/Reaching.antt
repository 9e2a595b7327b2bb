-- The cells of globals: reading and writing them changes no flags (Intel 64 and IA-32 Software Developer's Manual, volume 2: MOV). Outside
-- of a global nothing is defined.
use Rattle.std.specs.Prelude.{ℕ, List, length, Option, Some, None, if◌then◌else◌, nat_lt, option_and_then, slice_get, slice_set}
use Rattle.std.specs.Option.{option_map}
use Rattle.x86_syntax.specs.declared.register.Register.{Register}
use Rattle.x86_state.specs.State.{State, word, put}

-- a register becomes the word in a cell
abbrev pub loaded : Register → ℕ → ℕ → State → Option State
loaded target global cell s =
    option_map (λ w. put target w s) (option_and_then (λ cells. slice_get cells cell) (slice_get s.globals global))

-- the cells where one of them holds this word
abbrev pub with_cell : ℕ → ℕ → List ℕ → Option (List ℕ)
with_cell cell w cells = if nat_lt cell (length cells) then Some (slice_set cells cell w) else None

abbrev pub with_global : ℕ → State → List ℕ → State
with_global global s cells = record s { globals = slice_set s.globals global cells }

-- a cell becomes the word in a register
abbrev pub stored : ℕ → ℕ → Register → State → Option State
stored global cell source s =
    option_map (with_global global s) (option_and_then (with_cell cell (word source s)) (slice_get s.globals global))
