-- The state of a run of native code, and what follows it.
use Rattle.std.specs.Prelude.{ℕ, ◌+◌, List, Option, Some, None}
use Rattle.x86_syntax.specs.declared.register.Register.{Register}
use Rattle.x86_state.specs.declared.cell.Cell.{Cell}
use Rattle.x86_state.specs.Registers.{word_in, with_word}

-- The running function's number and the place in its code; the words in the registers; the two words that were compared last, if the
-- flags tell of any; the cells of the stack, the top first; the cells of each global; the bytes printed so far; and a stream of words
-- for all that is left open.
pub record State : Type 0 where
  pub function : ℕ
  pub place : ℕ
  pub registers : List ℕ
  pub flags : Option (ℕ × ℕ)
  pub stack : List Cell
  pub globals : List (List ℕ)
  pub output : List ℕ
  pub junk : ℕ → ℕ

-- what follows a state: another one, an end with a word, a stop, no room, or nothing that is defined
pub data Step : Type 0 where
  Goes : State → Step
  Ends : ℕ → Step
  Stops : Step
  Fills : Step
  Stuck : Step

-- the word in a register
abbrev pub word : Register → State → ℕ
word r s = word_in r s.registers

-- the state where a register holds this word
abbrev pub put : Register → ℕ → State → State
put r w s = record s { registers = with_word r w s.registers }

-- the state where the flags tell of these words, or of none
abbrev pub with_flags : Option (ℕ × ℕ) → State → State
with_flags flags s = record s { flags = flags }

abbrev pub with_stack : List Cell → State → State
with_stack cells s = record s { stack = cells }

-- the stream without its first word
abbrev pub rest_of : (ℕ → ℕ) → ℕ → ℕ
rest_of junk k = junk (k + 1)

-- goes on with the instruction below
abbrev pub goes_on : State → Step
goes_on s = Goes (record s { place = s.place + 1 })

-- the same, where there is a state
abbrev pub does : Option State → Step
does None = Stuck
does (Some s) = goes_on s
