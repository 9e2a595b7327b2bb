-- Moves between registers and the stack: they change no flags (Intel 64 and IA-32 Software Developer's Manual, volume 2: MOV).
use Rattle.std.specs.Prelude.{ℕ, Option}
use Rattle.std.specs.Option.{option_map}
use Rattle.x86_syntax.specs.declared.register.Register.{Register}
use Rattle.x86_state.specs.Cells.{word_at, kept}
use Rattle.x86_state.specs.State.{State, word, put, with_stack}

-- a register becomes the word in another
abbrev pub copied : Register → Register → State → State
copied target source s = put target (word source s) s

-- it becomes the word in a cell of the stack; where that holds no word nothing is defined
abbrev pub taken : Register → ℕ → State → Option State
taken target cell s = option_map (λ w. put target w s) (word_at s.stack cell)

-- a cell that holds a word becomes the one in a register
abbrev pub kept_from : ℕ → Register → State → Option State
kept_from cell source s = option_map (λ cells. with_stack cells s) (kept cell (word source s) s.stack)
