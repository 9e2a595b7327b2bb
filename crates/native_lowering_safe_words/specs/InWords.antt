-- States of native code in range: each word has 32 bits, and there are so many globals.
use Rattle.std.specs.Prelude.{◌≡◌, ℕ, ◌<◌, ◌^◌, List, [], ◌∷◌, length, slice_index}
use Rattle.x86_state.specs.declared.cell.Cell.{Cell}
use Rattle.x86_state.specs.declared.cell.Cell.TheVariants.{Word, Back}
use Rattle.x86_state.specs.State.{State}
use Rattle.native_lowering_ranges.specs.InRange.{AreCells}

-- the words in registers
abbrev pub AreSmall : List ℕ → Type 0
AreSmall words = (r : ℕ) → slice_index words r < 2 ^ 32

-- the words that are drawn for what is left open
abbrev pub AreDrawn : (ℕ → ℕ) → Type 0
AreDrawn junk = (k : ℕ) → junk k < 2 ^ 32

-- the words in cells of the stack
abbrev pub InCells : List Cell → Type 0
InCells [] = Unit {0}
InCells (Word w ∷ cells) = (w < 2 ^ 32) × InCells cells
InCells (Back to ∷ cells) = InCells cells

pub record InWords (n : ℕ) (s : State) : Type 0 where
  pub registers : AreSmall s.registers
  pub stack : InCells s.stack
  pub globals : AreCells s.globals
  pub count : length s.globals ≡ n
  pub junk : AreDrawn s.junk
