-- The first four arguments go to the registers in which they pass.
use Rattle.std.proofs.Common.{◌≡◌, ℕ, ◌+◌, ◌≤◌, List, [], ◌∷◌, ◌++◌, length, Option, refl, ap, ◌∙◌, arith, length-append}
use Rattle.std.specs.List.{AllByRecursion}
use Rattle.std.specs.Option.{option_map}
use Rattle.lang_base.specs.declared.program.Named.{Named}
use Rattle.locations.specs.declared.location.Location.{Location}
use Rattle.locations.specs.declared.location.Location.TheVariants.{InRegister, InSlot}
use Rattle.machine.specs.Fits.{LocationFits}
use Rattle.x86_syntax.specs.Registers.{number_of}
use Rattle.x86_syntax.specs.declared.function.Function.{Function}
use Rattle.x86_syntax.specs.declared.instruction.Instruction.{Instruction}
use Rattle.x86_syntax.specs.declared.register.Register.{Register}
use Rattle.x86_state.specs.Registers.{with_word}
use Rattle.x86_state.specs.State.{State, Goes, does, put}
use Rattle.x86_state.specs.declared.cell.Cell.{Cell}
use Rattle.x86_state.specs.declared.cell.Spot.{Spot}
use Rattle.native_lowering_definition.specs.Frames.{Frame}
use Rattle.native_lowering_definition.specs.Moving.{fetches, fetches_each}
use Rattle.native_lowering_relation.specs.Standing.{Held, IsFull}
use Rattle.native_lowering_relation.proofs.Standing.{slot_at}
use Rattle.native_lowering_walks.specs.Walks.{then as onward, walks}
use Rattle.native_lowering_runs.proofs.Blocks.{walks_then}
use Rattle.native_lowering_runs.proofs.Registers.{word_is_at}
use Rattle.native_lowering_passing.specs.Moved.{word_at_location, with_frame, words_fetched}

-- a register past those of Linear
abbrev pub IsScratch : Register → Type 0
IsScratch r = 8 ≤ number_of r

module _ (functions : List (Named Function)) (room : Option ℕ) (code : List Instruction) (frame : Frame) (t : State) (back : Option Spot) (under : List Cell) where
  abbrev At : ℕ → List ℕ → Held → State
  At = with_frame t back under

  -- one
  pub fetches_goes : (target : Register) (l : Location) (place : ℕ) (words : List ℕ) (held : Held) → IsFull frame held → LocationFits frame.slots l
      → walks functions room code (fetches frame target l) (At place words held) ≡ Goes (At (place + 1) (with_word target (word_at_location l words held) words) held)
  fetches_goes target (InRegister r) place words held full fits =
      ap (λ w. Goes (At (place + 1) (with_word target w words) held)) (word_is_at r words fits)
  fetches_goes target (InSlot s) place words held full fits =
      ap (λ o. onward (does (option_map (λ w. put target w (At place words held)) o)) (walks functions room code [])) (slot_at frame held back under full s fits)

  count_one : (target : Register) (l : Location) → length (fetches frame target l) ≡ 1
  count_one target (InRegister r) = refl
  count_one target (InSlot s) = refl

  -- all
  pub fetches_each_goes : (rs : List Register) (ls : List Location) (place : ℕ) (words : List ℕ) (held : Held) → IsFull frame held → AllByRecursion (LocationFits frame.slots) ls
      → walks functions room code (fetches_each frame rs ls) (At place words held) ≡ Goes (At (place + length (fetches_each frame rs ls)) (words_fetched rs ls words held) held)
  fetches_each_goes [] ls place words held full fits = ap (λ k. Goes (At k words held)) (omega arith)
  fetches_each_goes (r ∷ rs) [] place words held full fits = ap (λ k. Goes (At k words held)) (omega arith)
  fetches_each_goes (r ∷ rs) (l ∷ ls) place words held full fits =
      let words' = with_word r (word_at_location l words held) words in
      let rest = fetches_each frame rs ls in
      let far : place + 1 + length rest ≡ place + length (fetches frame r l ++ rest) = rw length-append (omega (arith, count_one r l)) in
      walks_then functions room code (fetches frame r l) rest (At place words held) (At (place + 1) words' held) (Goes (At (place + 1 + length rest) (words_fetched rs ls words' held) held))
      (fetches_goes r l place words held full fits.0)
      (fetches_each_goes rs ls (place + 1) words' held full fits.1)
      ∙ ap (λ k. Goes (At k (words_fetched rs ls words' held) held)) far
