-- The registers that a frame has saved are put back.
use Rattle.std.proofs.Common.{◌≡◌, ℕ, suc, ◌+◌, ◌<◌, ◌≤◌, List, [], ◌∷◌, length, Option, refl, ap, ◌∙◌, arith}
use Rattle.std.specs.Prelude.{slice_index, slice_set}
use Rattle.std.specs.List.{AllByRecursion}
use Rattle.std.specs.Option.{option_map}
use Rattle.std.proofs.lemmas.List.{get_or-set_other}
use Rattle.lang_base.specs.declared.program.Named.{Named}
use Rattle.x86_syntax.specs.declared.function.Function.{Function}
use Rattle.x86_syntax.specs.declared.instruction.Instruction.{Instruction}
use Rattle.x86_state.specs.State.{State, Goes, does, put}
use Rattle.x86_state.specs.declared.cell.Cell.{Cell}
use Rattle.x86_state.specs.declared.cell.Spot.{Spot}
use Rattle.native_lowering_definition.specs.Blocks.{restores}
use Rattle.native_lowering_definition.specs.Frames.{Frame, saved_cell}
use Rattle.native_lowering_definition.specs.Locations.{register_of}
use Rattle.native_lowering_relation.specs.Standing.{Held, IsFull, put_back}
use Rattle.native_lowering_relation.proofs.Standing.{saved_at}
use Rattle.native_lowering_walks.specs.Walks.{then as onward, walks}
use Rattle.native_lowering_runs.proofs.Registers.{with_word_at}
use Rattle.native_lowering_passing.specs.Moved.{with_frame}

-- from the saved word of this number on
abbrev put_from : ℕ → List ℕ → List ℕ → List ℕ → List ℕ
put_from j [] saved words = words
put_from j (r ∷ rs) saved words = put_from (j + 1) rs saved (slice_set words r (slice_index saved j))

shifted : (rs saved words : List ℕ) (w j k : ℕ) → k ≡ suc j → put_from k rs (w ∷ saved) words ≡ put_from j rs saved words
shifted [] saved words w j k e = refl
shifted (r ∷ rs) saved words w j k e = ap (λ m. put_from (m + 1) rs (w ∷ saved) (slice_set words r (slice_index (w ∷ saved) m))) e
    ∙ shifted rs saved (slice_set words r (slice_index saved j)) w (j + 1) (suc j + 1) (omega arith)

put_all : (rs saved words : List ℕ) → length saved ≡ length rs → put_from 0 rs saved words ≡ put_back rs saved words
put_all [] saved words e = refl
put_all (r ∷ rs) [] words e = absurd (omega arith)
put_all (r ∷ rs) (w ∷ saved) words e = shifted rs saved (slice_set words r w) w 0 1 refl ∙ put_all rs saved (slice_set words r w) (omega arith)

-- no other register is changed
pub put_back_high : (rs saved words : List ℕ) (k : ℕ) → 8 ≤ k → AllByRecursion (λ r. r < 8) rs → slice_index (put_back rs saved words) k ≡ slice_index words k
put_back_high [] saved words k high fits = refl
put_back_high (r ∷ rs) [] words k high fits = refl
put_back_high (r ∷ rs) (w ∷ saved) words k high fits =
    put_back_high rs saved (slice_set words r w) k high fits.1 ∙ get_or-set_other words r k w 0 (λ e. omega (arith, e, high, fits.0))

pub length-restores : (cell : ℕ) (rs : List ℕ) → length (restores cell rs) ≡ length rs
length-restores cell [] = refl
length-restores cell (r ∷ rs) = ap suc (length-restores (cell + 1) rs)

module _ (functions : List (Named Function)) (room : Option ℕ) (code : List Instruction) (frame : Frame) (t : State) (back : Option Spot) (under : List Cell) where
  abbrev At : ℕ → List ℕ → Held → State
  At = with_frame t back under

  from_goes : (rs : List ℕ) (j cell place : ℕ) (words : List ℕ) (held : Held) → IsFull frame held → cell ≡ saved_cell frame + j → j + length rs ≤ length frame.saved → AllByRecursion (λ r. r < 8) rs
      → walks functions room code (restores cell rs) (At place words held) ≡ Goes (At (place + length rs) (put_from j rs held.saved words) held)
  from_goes [] j cell place words held full e within fits = ap (λ k. Goes (At k words held)) (omega arith)
  from_goes (r ∷ rs) j cell place words held full e within fits =
      let w = slice_index held.saved j in
      let far : place + 1 + length rs ≡ place + suc (length rs) = omega arith in
      ap (λ o. onward (does (option_map (λ x. put (register_of r) x (At place words held)) o)) (walks functions room code (restores (cell + 1) rs))) (saved_at frame held back under full j cell e (omega arith))
      ∙ ap (λ (ws : List ℕ). walks functions room code (restores (cell + 1) rs) (At (place + 1) ws held)) (with_word_at r w words fits.0)
      ∙ from_goes rs (j + 1) (cell + 1) (place + 1) (slice_set words r w) held full (omega arith) (omega arith) fits.1
      ∙ ap (λ k. Goes (At k (put_from (j + 1) rs held.saved (slice_set words r w)) held)) far

  pub restores_goes : (place : ℕ) (words : List ℕ) (held : Held) → IsFull frame held → AllByRecursion (λ r. r < 8) frame.saved
      → walks functions room code (restores (saved_cell frame) frame.saved) (At place words held) ≡ Goes (At (place + length frame.saved) (put_back frame.saved held.saved words) held)
  restores_goes place words held full fits = from_goes frame.saved 0 (saved_cell frame) place words held full (omega arith) (omega arith) fits
      ∙ ap (λ (ws : List ℕ). Goes (At (place + length frame.saved) ws held)) (put_all frame.saved held.saved words full.saved)
