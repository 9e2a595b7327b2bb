-- The cells of a frame on the stack: what they hold, what is kept in them, what is taken off.
use Rattle.std.proofs.Common.{◌≡◌, ℕ, zero, suc, ◌+◌, ◌<◌, List, [], ◌∷◌, length, Option, Some, refl, ap, ◌∙◌, arith}
use Rattle.std.specs.Prelude.{slice_index, slice_set}
use Rattle.std.specs.Option.{option_map}
use Rattle.std.proofs.lemmas.List.{length-set}
use Rattle.x86_state.specs.Cells.{word_at, kept, shrunk}
use Rattle.x86_state.specs.declared.cell.Cell.{Cell}
use Rattle.x86_state.specs.declared.cell.Cell.TheVariants.{Word, Back}
use Rattle.x86_state.specs.declared.cell.Spot.{Spot}
use Rattle.native_lowering_definition.specs.Frames.{Frame, size_of, slot_cell, saved_cell}
use Rattle.native_lowering_relation.specs.Standing.{Held, IsFull, above, laid}

-- ---- words on top of cells

pub above_at : (ws : List ℕ) (cells : List Cell) (k : ℕ) → k < length ws → word_at (above ws cells) k ≡ Some (slice_index ws k)
above_at [] cells k within = absurd (omega arith)
above_at (w ∷ ws) cells zero within = refl
above_at (w ∷ ws) cells (suc k) within = above_at ws cells k (omega arith)

pub above_past : (ws : List ℕ) (cells : List Cell) (k n : ℕ) → n ≡ length ws + k → word_at (above ws cells) n ≡ word_at cells k
above_past [] cells k n e = ap (word_at cells) (omega arith)
above_past (w ∷ ws) cells k zero e = absurd (omega arith)
above_past (w ∷ ws) cells k (suc n) e = above_past ws cells k n (omega arith)

set_above : (ws : List ℕ) (cells : List Cell) (k w : ℕ) → k < length ws → slice_set (above ws cells) k (Word w) ≡ above (slice_set ws k w) cells
set_above [] cells k w within = absurd (omega arith)
set_above (x ∷ ws) cells zero w within = refl
set_above (x ∷ ws) cells (suc k) w within = ap (λ (cs : List Cell). Word x ∷ cs) (set_above ws cells k w (omega arith))

set_past : (ws : List ℕ) (cells : List Cell) (k n w : ℕ) → n ≡ length ws + k → slice_set (above ws cells) n (Word w) ≡ above ws (slice_set cells k (Word w))
set_past [] cells k n w e = ap (λ m. slice_set cells m (Word w)) (omega arith)
set_past (x ∷ ws) cells k zero w e = absurd (omega arith)
set_past (x ∷ ws) cells k (suc n) w e = ap (λ (cs : List Cell). Word x ∷ cs) (set_past ws cells k n w (omega arith))

kept_where : (cells changed : List Cell) (k w x : ℕ) → word_at cells k ≡ Some x → slice_set cells k (Word w) ≡ changed → kept k w cells ≡ Some changed
kept_where cells changed k w x there e = ap (option_map (λ before. slice_set cells k (Word w))) there ∙ ap (λ cs. Some cs) e

pub kept_above : (ws : List ℕ) (cells : List Cell) (k w : ℕ) → k < length ws → kept k w (above ws cells) ≡ Some (above (slice_set ws k w) cells)
kept_above ws cells k w within = kept_where _ _ k w (slice_index ws k) (above_at ws cells k within) (set_above ws cells k w within)

kept_past : (ws : List ℕ) (cells changed : List Cell) (k n w x : ℕ) → n ≡ length ws + k → word_at cells k ≡ Some x → slice_set cells k (Word w) ≡ changed
    → kept n w (above ws cells) ≡ Some (above ws changed)
kept_past ws cells changed k n w x e there same =
    kept_where (above ws cells) (above ws changed) n w x (above_past ws cells k n e ∙ there) (set_past ws cells k n w e ∙ ap (above ws) same)

shrunk_above : (ws : List ℕ) (cells : List Cell) (n m : ℕ) → n ≡ length ws + m → shrunk n (above ws cells) ≡ shrunk m cells
shrunk_above [] cells n m e = ap (λ k. shrunk k cells) (omega arith)
shrunk_above (w ∷ ws) cells zero m e = absurd (omega arith)
shrunk_above (w ∷ ws) cells (suc n) m e = shrunk_above ws cells n m (omega arith)

-- ---- a frame

module _ (frame : Frame) (held : Held) (back : Option Spot) (under : List Cell) (full : IsFull frame held) where
  -- a cell for an argument
  pub out_kept : (k w : ℕ) → k < frame.outs → kept k w (laid held back under) ≡ Some (laid (record held { outs = slice_set held.outs k w }) back under)
  out_kept k w within = kept_above held.outs _ k w (omega (arith, full.outs))

  -- a slot
  pub slot_at : (s : ℕ) → s < frame.slots → word_at (laid held back under) (slot_cell frame s) ≡ Some (slice_index held.slots s)
  slot_at s within =
      above_past held.outs _ s (slot_cell frame s) (omega (arith, full.outs))
      ∙ above_at held.slots _ s (omega (arith, full.slots))

  pub slot_kept : (s w : ℕ) → s < frame.slots → kept (slot_cell frame s) w (laid held back under) ≡ Some (laid (record held { slots = slice_set held.slots s w }) back under)
  slot_kept s w within =
      let here = above held.saved (Back back ∷ under) in
      kept_past held.outs (above held.slots here) (above (slice_set held.slots s w) here) s (slot_cell frame s) w (slice_index held.slots s) (omega (arith, full.outs))
      (above_at held.slots here s (omega (arith, full.slots))) (set_above held.slots here s w (omega (arith, full.slots)))

  -- a register that is saved
  pub saved_at : (j n : ℕ) → n ≡ saved_cell frame + j → j < length frame.saved → word_at (laid held back under) n ≡ Some (slice_index held.saved j)
  saved_at j n e within =
      above_past held.outs _ (length held.slots + j) n (omega (arith, full.outs, full.slots))
      ∙ above_past held.slots _ j (length held.slots + j) refl
      ∙ above_at held.saved _ j (omega (arith, full.saved))

  pub saved_kept : (j n w : ℕ) → n ≡ saved_cell frame + j → j < length frame.saved
      → kept n w (laid held back under) ≡ Some (laid (record held { saved = slice_set held.saved j w }) back under)
  saved_kept j n w e within =
      let last = Back back ∷ under in
      let there = above_past held.slots (above held.saved last) j (length held.slots + j) refl ∙ above_at held.saved last j (omega (arith, full.saved)) in
      kept_past held.outs (above held.slots (above held.saved last)) (above held.slots (above (slice_set held.saved j w) last)) (length held.slots + j) n w (slice_index held.saved j)
      (omega (arith, full.outs, full.slots)) there
      (set_past held.slots (above held.saved last) j (length held.slots + j) w refl ∙ ap (above held.slots) (set_above held.saved last j w (omega (arith, full.saved))))

  -- all of it is taken off
  pub all_shrunk : shrunk (size_of frame) (laid held back under) ≡ Some (Back back ∷ under)
  all_shrunk =
      shrunk_above held.outs _ (size_of frame) (length held.slots + length held.saved) (omega (arith, full.outs, full.slots, full.saved))
      ∙ shrunk_above held.slots _ (length held.slots + length held.saved) (length held.saved) refl
      ∙ shrunk_above held.saved (Back back ∷ under) (length held.saved) 0 (omega arith)

  -- it stays full
  pub full_outs : (k w : ℕ) → IsFull frame (record held { outs = slice_set held.outs k w })
  full_outs k w = record { outs = length-set held.outs k w ∙ full.outs; slots = full.slots; saved = full.saved }

  pub full_slots : (s w : ℕ) → IsFull frame (record held { slots = slice_set held.slots s w })
  full_slots s w = record { outs = full.outs; slots = length-set held.slots s w ∙ full.slots; saved = full.saved }
