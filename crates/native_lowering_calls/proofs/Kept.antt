-- Arguments past the fourth in the first cells of the frame.
use Rattle.std.proofs.Common.{◌≡◌, ℕ, ◌+◌, ◌<◌, ◌≤◌, List, [], ◌∷◌, length, Option, Some, refl, ap, ◌∙◌, arith}
use Rattle.std.specs.Prelude.{slice_index, slice_set}
use Rattle.std.proofs.lemmas.List.{get_or-set_same, get_or-set_other}
use Rattle.locations.specs.declared.location.Location.{Location}
use Rattle.locations.specs.declared.location.Location.TheVariants.{InRegister, InSlot}
use Rattle.machine.specs.Calls.{values_of}
use Rattle.machine.specs.Data.{Data}
use Rattle.linear_language.specs.Function.{FunctionData}
use Rattle.x86_state.specs.declared.cell.Cell.{Cell}
use Rattle.x86_state.specs.declared.cell.Spot.{Spot}
use Rattle.native_lowering_definition.specs.Frames.{frame_of}
use Rattle.native_lowering_relation.specs.Standing.{Held, Holds, laid}
use Rattle.native_lowering_relation.proofs.Standing.{above_at}
use Rattle.native_lowering_runs.proofs.Held.{scratch_written, out_written}
use Rattle.native_lowering_passing.specs.Moved.{word_at_location, through_eax, with_argument, words_kept, held_kept}
use Rattle.native_lowering_calls.specs.Given.{AgreeFrom}
use Rattle.native_lowering_calls.proofs.Lost.{location_agrees}

-- but eax no register is changed
pub kept_low : (ls : List Location) (words : List ℕ) (held : Held) (r : ℕ) → r < 8 → slice_index (words_kept ls words held) r ≡ slice_index words r
kept_low [] words held r low = refl
kept_low (InRegister q ∷ ls) words held r low = kept_low ls words held r low
kept_low (InSlot s ∷ ls) words held r low =
    kept_low ls (slice_set words 8 (slice_index held.slots s)) held r low ∙ get_or-set_other words 8 r (slice_index held.slots s) 0 (λ e. omega (arith, e, low))

pub kept_saved : (ls : List Location) (cell : ℕ) (words : List ℕ) (held : Held) → (held_kept cell ls words held).saved ≡ held.saved
kept_saved [] cell words held = refl
kept_saved (l ∷ ls) cell words held = kept_saved ls (cell + 1) (through_eax l words held) (with_argument cell l words held)

module _ (f : FunctionData) (registers slots : List (Option ℕ)) where
  -- the function has what it had
  pub kept_holds : (ls : List Location) (cell : ℕ) (words words' : List ℕ) (held held' : Held) → Holds f registers slots words held'
      → Holds f registers slots (words_kept ls words held) (held_kept cell ls words' held')
  kept_holds [] cell words words' held held' holds = holds
  kept_holds (InRegister r ∷ ls) cell words words' held held' holds =
      kept_holds ls (cell + 1) words words' held (with_argument cell (InRegister r) words' held') (out_written f registers slots words held' holds cell (slice_index words' r))
  kept_holds (InSlot s ∷ ls) cell words words' held held' holds =
      let ws = slice_set words 8 (slice_index held.slots s) in
      let ws' = slice_set words' 8 (slice_index held'.slots s) in
      kept_holds ls (cell + 1) ws ws' held (with_argument cell (InSlot s) words' held')
      (out_written f registers slots ws held' (scratch_written f registers slots words held' holds 8 (slice_index held.slots s) (omega arith)) cell (slice_index held'.slots s))

-- cells before these are as they were
kept_before : (ls : List Location) (cell : ℕ) (words : List ℕ) (held : Held) (k : ℕ) → k < cell → slice_index (held_kept cell ls words held).outs k ≡ slice_index held.outs k
kept_before [] cell words held k before = refl
kept_before (l ∷ ls) cell words held k before = kept_before ls (cell + 1) (through_eax l words held) (with_argument cell l words held) k (omega arith)
    ∙ get_or-set_other held.outs cell k (word_at_location l words held) 0 (λ e. omega (arith, e, before))

module _ (f : FunctionData) (d : Data) (back : Option Spot) (under : List Cell) where
  -- once a word went through eax and into its cell
  one_holds : (l : Location) (cell : ℕ) (words : List ℕ) (held : Held) → Holds f d.registers d.slots words held → Holds f d.registers d.slots (through_eax l words held) (with_argument cell l words held)
  one_holds (InRegister r) cell words held holds = out_written f d.registers d.slots words held holds cell (slice_index words r)
  one_holds (InSlot s) cell words held holds =
      out_written f d.registers d.slots (slice_set words 8 (slice_index held.slots s)) held (scratch_written f d.registers d.slots words held holds 8 (slice_index held.slots s) (omega arith)) cell (slice_index held.slots s)

  pub kept_given : (ls : List Location) (cell : ℕ) (words : List ℕ) (held : Held) → Holds f d.registers d.slots words held → cell + length ls ≤ (frame_of f).outs
      → AgreeFrom cell (values_of ls d) (laid (held_kept cell ls words held) back under)
  kept_given [] cell words held holds within = tt
  kept_given (l ∷ ls) cell words held holds within =
      let w = word_at_location l words held in
      let words' = through_eax l words held in
      let held' = with_argument cell l words held in
      let last = held_kept (cell + 1) ls words' held' in
      let holds' = one_holds l cell words held holds in
      let full = (kept_holds f d.registers d.slots ls (cell + 1) words' words' held' held' holds').full in
      let is_it : slice_index last.outs cell ≡ w =
      kept_before ls (cell + 1) words' held' cell (omega arith) ∙ get_or-set_same held.outs cell w 0 (omega (arith, within, holds.full.outs)) in (
        record {
          word = w;
          there = above_at last.outs _ cell (omega (arith, within, full.outs)) ∙ ap (λ x. Some x) is_it;
          agrees = location_agrees f d words held holds l;
        },
        kept_given ls (cell + 1) words' held' holds' (omega arith),
      )
