-- A frame is made, and the caller's registers are saved in it.
use Rattle.std.proofs.Common.{◌≡◌, ℕ, zero, suc, ◌+◌, ◌<◌, ◌≤◌, List, [], ◌∷◌, ◌++◌, length, take, drop, Option, refl, sym, ap, ◌∙◌, arith}
use Rattle.std.specs.Prelude.{slice_index, slice_set}
use Rattle.std.specs.List.{AllByRecursion}
use Rattle.std.specs.Option.{option_map}
use Rattle.std.proofs.lemmas.List.{length-set, length-take, length-drop, take-append-drop}
use Rattle.lang_base.specs.declared.program.Named.{Named}
use Rattle.x86_syntax.specs.declared.function.Function.{Function}
use Rattle.x86_syntax.specs.declared.instruction.Instruction.{Instruction}
use Rattle.x86_state.specs.Cells.{kept}
use Rattle.x86_state.specs.State.{State, Goes, does, with_stack, rest_of}
use Rattle.x86_state.specs.declared.cell.Cell.{Cell}
use Rattle.x86_state.specs.declared.cell.Cell.TheVariants.{Word, Back}
use Rattle.x86_state.specs.declared.cell.Spot.{Spot}
use Rattle.x86.specs.Framing.{with_cells}
use Rattle.native_lowering_definition.specs.Blocks.{saves}
use Rattle.native_lowering_definition.specs.Frames.{Frame, size_of, saved_cell}
use Rattle.native_lowering_relation.specs.Standing.{Held, IsFull, above, laid}
use Rattle.native_lowering_relation.proofs.Standing.{saved_kept}
use Rattle.native_lowering_walks.specs.Walks.{then as onward, walks}
use Rattle.native_lowering_runs.proofs.Registers.{word_is_at}
use Rattle.native_lowering_passing.specs.Moved.{with_frame, drawn, behind, words_of, written_from}

-- ---- the frame

pub cells_drawn : (n : ℕ) (s : State) (ws : List ℕ) (cells : List Cell) → s.stack ≡ above ws cells → with_cells n s ≡ record s { stack = above (drawn n s.junk ws) cells; junk = behind n s.junk }
cells_drawn zero s ws cells e = λ i. record s { stack = e i }
cells_drawn (suc n) s ws cells e =
    cells_drawn n (record s { stack = Word (s.junk 0) ∷ s.stack; junk = rest_of s.junk }) (s.junk 0 ∷ ws) cells (ap (λ (cs : List Cell). Word (s.junk 0) ∷ cs) e)

pub length-drawn : (n : ℕ) (junk : ℕ → ℕ) (ws : List ℕ) → length (drawn n junk ws) ≡ n + length ws
length-drawn zero junk ws = omega arith
length-drawn (suc n) junk ws = length-drawn n (rest_of junk) (junk 0 ∷ ws) ∙ omega arith

above_both : (xs ys : List ℕ) (cells : List Cell) → above (xs ++ ys) cells ≡ above xs (above ys cells)
above_both [] ys cells = refl
above_both (x ∷ xs) ys cells = ap (λ (cs : List Cell). Word x ∷ cs) (above_both xs ys cells)

-- words as the cells of a frame
abbrev pub as_held : Frame → List ℕ → Held
as_held frame ws = record { outs = take frame.outs ws; slots = take frame.slots (drop frame.outs ws); saved = drop frame.slots (drop frame.outs ws) }

pub held_laid : (frame : Frame) (ws : List ℕ) (back : Option Spot) (under : List Cell) → above ws (Back back ∷ under) ≡ laid (as_held frame ws) back under
held_laid frame ws back under =
    let rest = drop frame.outs ws in
    ap (λ xs. above xs (Back back ∷ under)) (sym (take-append-drop frame.outs ws))
    ∙ above_both (take frame.outs ws) rest (Back back ∷ under)
    ∙ ap (above (take frame.outs ws)) (ap (λ xs. above xs (Back back ∷ under)) (sym (take-append-drop frame.slots rest)) ∙ above_both (take frame.slots rest) (drop frame.slots rest) (Back back ∷ under))

pub held_full : (frame : Frame) (ws : List ℕ) → length ws ≡ size_of frame → IsFull frame (as_held frame ws)
held_full frame ws e = record {
  outs = length-take frame.outs ws ∙ omega (arith, e);
  slots = length-take frame.slots (drop frame.outs ws) ∙ omega (arith, e, length-drop frame.outs ws);
  saved = length-drop frame.slots (drop frame.outs ws) ∙ omega (arith, e, length-drop frame.outs ws);
}

-- ---- the registers

module _ (functions : List (Named Function)) (room : Option ℕ) (code : List Instruction) (frame : Frame) (t : State) (back : Option Spot) (under : List Cell) where
  abbrev At : ℕ → List ℕ → Held → State
  At = with_frame t back under

  abbrev with_saved : ℕ → List ℕ → List ℕ → Held → Held
  with_saved j rs words held = record held { saved = written_from j (words_of rs words) held.saved }

  pub saves_goes : (rs : List ℕ) (j cell place : ℕ) (words : List ℕ) (held : Held) → IsFull frame held → cell ≡ saved_cell frame + j → j + length rs ≤ length frame.saved → AllByRecursion (λ r. r < 8) rs
      → walks functions room code (saves cell rs) (At place words held) ≡ Goes (At (place + length rs) words (with_saved j rs words held))
  saves_goes [] j cell place words held full e within fits = ap (λ k. Goes (At k words held)) (omega arith)
  saves_goes (r ∷ rs) j cell place words held full e within fits =
      let w = slice_index words r in
      let held' = record held { saved = slice_set held.saved j w } in
      let full' : IsFull frame held' = record { outs = full.outs; slots = full.slots; saved = length-set held.saved j w ∙ full.saved } in
      let far : place + 1 + length rs ≡ place + suc (length rs) = omega arith in
      ap (λ k. onward (does (option_map (λ cells. with_stack cells (At place words held)) (kept cell k (laid held back under)))) (walks functions room code (saves (cell + 1) rs))) (word_is_at r words fits.0)
      ∙ ap (λ o. onward (does (option_map (λ cells. with_stack cells (At place words held)) o)) (walks functions room code (saves (cell + 1) rs))) (saved_kept frame held back under full j cell w e (omega arith))
      ∙ saves_goes rs (j + 1) (cell + 1) (place + 1) words held' full' (omega arith) (omega arith) fits.1
      ∙ ap (λ k. Goes (At k words (with_saved (j + 1) rs words held'))) far
