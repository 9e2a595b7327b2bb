-- The words in the registers, by number.
use Rattle.std.specs.Prelude.{ℕ, List, slice_index, slice_set}
use Rattle.x86_syntax.specs.Registers.{number_of}
use Rattle.x86_syntax.specs.declared.register.Register.{Register}

-- the word in a register
abbrev pub word_in : Register → List ℕ → ℕ
word_in r words = slice_index words (number_of r)

-- the words where a register holds this one
abbrev pub with_word : Register → ℕ → List ℕ → List ℕ
with_word r w words = slice_set words (number_of r) w
