-- The frame of a function on the stack. From the top stand the cells for arguments of its calls, its slots, and the registers of its
-- caller that it has saved; then where it goes back to; then the caller's frame.
use Rattle.std.specs.Prelude.{◌≡◌, ℕ, List, [], ◌∷◌, length, Option, slice_set}
use Rattle.linear_language.specs.Function.{FunctionData}
use Rattle.x86_state.specs.declared.cell.Cell.{Cell}
use Rattle.x86_state.specs.declared.cell.Cell.TheVariants.{Word, Back}
use Rattle.x86_state.specs.declared.cell.Spot.{Spot}
use Rattle.native_lowering_definition.specs.Frames.{Frame, frame_of}
use Rattle.native_lowering_relation.specs.Agreeing.{AgreeEach}

-- the words of a frame: for arguments, in slots, saved
pub record Held : Type 0 where
  pub outs : List ℕ
  pub slots : List ℕ
  pub saved : List ℕ

-- they are as many as the frame has cells for them
pub record IsFull (frame : Frame) (held : Held) : Type 0 where
  pub outs : length held.outs ≡ frame.outs
  pub slots : length held.slots ≡ frame.slots
  pub saved : length held.saved ≡ length frame.saved

-- words on top of these cells
abbrev pub above : List ℕ → List Cell → List Cell
above [] cells = cells
above (w ∷ ws) cells = Word w ∷ above ws cells

-- the stack with such a frame on top, which goes back to there, with the caller's frames below it
abbrev pub laid : Held → Option Spot → List Cell → List Cell
laid held back under = above held.outs (above held.slots (above held.saved (Back back ∷ under)))

-- the registers once those that a frame has saved are put back
abbrev pub put_back : List ℕ → List ℕ → List ℕ → List ℕ
put_back [] saved registers = registers
put_back (r ∷ rs) [] registers = registers
put_back (r ∷ rs) (w ∷ ws) registers = put_back rs ws (slice_set registers r w)

-- What a function of Linear has in its registers and slots is in native registers and in its frame; each function has eight
-- registers, and native code thirteen.
pub record Holds (f : FunctionData) (registers slots : List (Option ℕ)) (words : List ℕ) (held : Held) : Type 0 where
  pub eight : length registers ≡ 8
  pub thirteen : length words ≡ 13
  pub agree : AgreeEach registers words
  pub count : length slots ≡ f.slots
  pub agree_slots : AgreeEach slots held.slots
  pub full : IsFull (frame_of f) held
