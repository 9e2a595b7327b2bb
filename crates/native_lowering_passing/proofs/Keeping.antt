-- Arguments past the fourth go to the first cells of the frame.
use Rattle.std.proofs.Common.{◌≡◌, ℕ, ◌+◌, ◌<◌, ◌≤◌, List, [], ◌∷◌, ◌++◌, length, Option, refl, ap, ◌∙◌, arith, length-append}
use Rattle.std.specs.Prelude.{slice_index, slice_set}
use Rattle.std.specs.List.{AllByRecursion}
use Rattle.std.specs.Option.{option_map}
use Rattle.std.proofs.lemmas.List.{get_or-set_same, length-set}
use Rattle.lang_base.specs.declared.program.Named.{Named}
use Rattle.locations.specs.declared.location.Location.{Location}
use Rattle.locations.specs.declared.location.Location.TheVariants.{InRegister, InSlot}
use Rattle.machine.specs.Fits.{LocationFits}
use Rattle.x86_syntax.specs.Registers.{number_of}
use Rattle.x86_syntax.specs.declared.function.Function.{Function}
use Rattle.x86_syntax.specs.declared.instruction.Instruction.{Instruction}
use Rattle.x86_syntax.specs.declared.instruction.Instruction.TheVariants.{Keep}
use Rattle.x86_syntax.specs.declared.register.Register.TheVariants.{Eax}
use Rattle.x86_state.specs.Cells.{word_at, kept}
use Rattle.x86_state.specs.State.{State, Goes, does, put, with_stack}
use Rattle.x86_state.specs.declared.cell.Cell.{Cell}
use Rattle.x86_state.specs.declared.cell.Spot.{Spot}
use Rattle.native_lowering_definition.specs.Frames.{Frame, slot_cell}
use Rattle.native_lowering_definition.specs.Moving.{keeps, keeps_each}
use Rattle.native_lowering_relation.specs.Standing.{Held, IsFull, laid}
use Rattle.native_lowering_relation.proofs.Standing.{out_kept, slot_at, full_outs}
use Rattle.native_lowering_walks.specs.Walks.{then as onward, walks}
use Rattle.native_lowering_runs.proofs.Blocks.{walks_then}
use Rattle.native_lowering_runs.proofs.Registers.{word_is_at}
use Rattle.native_lowering_passing.specs.Moved.{word_at_location, with_frame, through_eax, with_argument, words_kept, held_kept}

module _ (functions : List (Named Function)) (room : Option ℕ) (code : List Instruction) (frame : Frame) (t : State) (back : Option Spot) (under : List Cell) where
  abbrev At : ℕ → List ℕ → Held → State
  At = with_frame t back under

  take_goes : (s place : ℕ) (words : List ℕ) (held : Held) → IsFull frame held → s < frame.slots
      → does (option_map (λ w. put Eax w (At place words held)) (word_at (laid held back under) (slot_cell frame s))) ≡ Goes (At (place + 1) (slice_set words 8 (slice_index held.slots s)) held)
  unfolding number_of
  take_goes s place words held full within =
      ap (λ o. does (option_map (λ w. put Eax w (At place words held)) o)) (slot_at frame held back under full s within)

  keep_goes : (cell place w : ℕ) (words : List ℕ) (held : Held) → IsFull frame held → cell < frame.outs
      → does (option_map (λ cells. with_stack cells (At place words held)) (kept cell w (laid held back under))) ≡ Goes (At (place + 1) words (record held { outs = slice_set held.outs cell w }))
  keep_goes cell place w words held full within =
      ap (λ o. does (option_map (λ cells. with_stack cells (At place words held)) o)) (out_kept frame held back under full cell w within)

  -- one
  pub keeps_goes : (cell : ℕ) (l : Location) (place : ℕ) (words : List ℕ) (held : Held) → IsFull frame held → length words ≡ 13 → cell < frame.outs → LocationFits frame.slots l
      → walks functions room code (keeps frame cell l) (At place words held)
      ≡ Goes (At (place + length (keeps frame cell l)) (through_eax l words held) (with_argument cell l words held))
  unfolding number_of
  keeps_goes cell (InRegister r) place words held full thirteen within fits =
      ap (λ w. onward (does (option_map (λ cells. with_stack cells (At place words held)) (kept cell w (laid held back under)))) (walks functions room code [])) (word_is_at r words fits)
      ∙ ap (λ x. onward x (walks functions room code [])) (keep_goes cell place (slice_index words r) words held full within)
  keeps_goes cell (InSlot s) place words held full thirteen within fits =
      let w = slice_index held.slots s in
      let two : place + 1 + 1 ≡ place + 2 = omega arith in
      ap (λ x. onward x (walks functions room code (Keep cell Eax ∷ []))) (take_goes s place words held full fits)
      ∙ ap (λ k. onward (does (option_map (λ cells. with_stack cells (At (place + 1) (slice_set words 8 w) held)) (kept cell k (laid held back under)))) (walks functions room code []))
      (get_or-set_same words 8 w 0 (omega (arith, thirteen)))
      ∙ ap (λ x. onward x (walks functions room code [])) (keep_goes cell (place + 1) w (slice_set words 8 w) held full within)
      ∙ ap (λ k. Goes (At k (slice_set words 8 w) (with_argument cell (InSlot s) words held))) two

  length-through : (l : Location) (words : List ℕ) (held : Held) → length (through_eax l words held) ≡ length words
  length-through (InRegister r) words held = refl
  length-through (InSlot s) words held = length-set words 8 (slice_index held.slots s)

  same_kept : (ls : List Location) (words : List ℕ) (held held' : Held) → held'.slots ≡ held.slots → words_kept ls words held' ≡ words_kept ls words held
  same_kept [] words held held' e = refl
  same_kept (InRegister r ∷ ls) words held held' e = same_kept ls words held held' e
  same_kept (InSlot s ∷ ls) words held held' e =
      ap (λ ws. words_kept ls (slice_set words 8 (slice_index ws s)) held') e ∙ same_kept ls (slice_set words 8 (slice_index held.slots s)) held held' e

  -- all
  pub keeps_each_goes : (cell : ℕ) (ls : List Location) (place : ℕ) (words : List ℕ) (held : Held) → IsFull frame held → length words ≡ 13 → cell + length ls ≤ frame.outs → AllByRecursion (LocationFits frame.slots) ls
      → walks functions room code (keeps_each frame cell ls) (At place words held)
      ≡ Goes (At (place + length (keeps_each frame cell ls)) (words_kept ls words held) (held_kept cell ls words held))
  keeps_each_goes cell [] place words held full thirteen within fits = ap (λ k. Goes (At k words held)) (omega arith)
  keeps_each_goes cell (l ∷ ls) place words held full thirteen within fits =
      let here = place + length (keeps frame cell l) in
      let words' = through_eax l words held in
      let held' = with_argument cell l words held in
      let rest = keeps_each frame (cell + 1) ls in
      let far : here + length rest ≡ place + length (keeps frame cell l ++ rest) = rw length-append (omega arith) in
      walks_then functions room code (keeps frame cell l) rest (At place words held) (At here words' held')
      (Goes (At (here + length rest) (words_kept ls words' held') (held_kept (cell + 1) ls words' held')))
      (keeps_goes cell l place words held full thirteen (omega arith) fits.0)
      (keeps_each_goes (cell + 1) ls here words' held' (full_outs frame held back under full cell (word_at_location l words held)) (length-through l words held ∙ thirteen) (omega arith) fits.1)
      ∙ (λ i. Goes (At (far i) (same_kept ls words' held held' refl i) (held_kept (cell + 1) ls words' held')))
