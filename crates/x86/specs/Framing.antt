-- The stack grows and shrinks (Intel 64 and IA-32 Software Developer's Manual, volume 2: SUB, ADD, CMP and Jcc on the stack pointer).
use Rattle.std.specs.Prelude.{ℕ, zero, suc, ◌∷◌, length, Bool, true, Option, Some, None, if◌then◌else◌, nat_le}
use Rattle.std.specs.Option.{option_map}
use Rattle.x86_state.specs.declared.cell.Cell.TheVariants.{Word}
use Rattle.x86_state.specs.Cells.{shrunk}
use Rattle.x86_state.specs.State.{State, Step, Fills, with_flags, with_stack, rest_of, goes_on}

-- whether so many cells have room, where there is a bound
abbrev pub has_room : Option ℕ → ℕ → Bool
has_room None count = true
has_room (Some room) count = nat_le count room

-- goes on where the stack has room
abbrev pub goes_if_room : Option ℕ → State → Step
goes_if_room room s = if has_room room (length s.stack) then goes_on (with_flags None s) else Fills

-- a cell more, whatever it holds
abbrev pub with_cell : State → State
with_cell s = record s { stack = Word (s.junk 0) ∷ s.stack; junk = rest_of s.junk }

-- n cells more
abbrev pub with_cells : ℕ → State → State
with_cells zero s = s
with_cells (suc n) s = with_cells n (with_cell s)

abbrev pub grown : ℕ → State → State
grown n s = with_flags None (with_cells n s)

-- n cells less, each of which held a word
abbrev pub shrunk_by : ℕ → State → Option State
shrunk_by n s = option_map (λ cells. with_flags None (with_stack cells s)) (shrunk n s.stack)
