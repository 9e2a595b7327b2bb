-- A callee receives a parameter: its location has what the caller passed, defined or not.
use Rattle.std.proofs.Common.{◌≡◌, ℕ, ◌+◌, ◌<◌, ◌≤◌, List, [], ◌∷◌, length, Option, Some, refl, ap, ◌∙◌, arith}
use Rattle.std.specs.Prelude.{slice_index, slice_set}
use Rattle.std.specs.Option.{option_map}
use Rattle.std.proofs.lemmas.List.{get_or-set_same, get_or-set_other}
use Rattle.lang_base.specs.declared.program.Named.{Named}
use Rattle.locations.specs.declared.location.Location.{Location}
use Rattle.locations.specs.declared.location.Location.TheVariants.{InRegister, InSlot}
use Rattle.machine.specs.Data.{Data, put_at}
use Rattle.machine.specs.Fits.{LocationFits}
use Rattle.linear_language.specs.Function.{FunctionData}
use Rattle.x86_syntax.specs.Registers.{number_of}
use Rattle.x86_syntax.specs.declared.function.Function.{Function}
use Rattle.x86_syntax.specs.declared.instruction.Instruction.{Instruction}
use Rattle.x86_syntax.specs.declared.instruction.Instruction.TheVariants.{Keep}
use Rattle.x86_syntax.specs.declared.register.Register.{Register}
use Rattle.x86_syntax.specs.declared.register.Register.TheVariants.{Eax}
use Rattle.x86_state.specs.Cells.{word_at, kept}
use Rattle.x86_state.specs.Registers.{word_in}
use Rattle.x86_state.specs.State.{State, Goes, does, put, with_stack}
use Rattle.x86_state.specs.declared.cell.Cell.{Cell}
use Rattle.x86_state.specs.declared.cell.Spot.{Spot}
use Rattle.native_lowering_definition.specs.Frames.{frame_of, slot_cell}
use Rattle.native_lowering_definition.specs.Locations.{register_of}
use Rattle.native_lowering_definition.specs.Moving.{puts, takes}
use Rattle.native_lowering_definition.specs.Operating.{Block}
use Rattle.native_lowering_relation.specs.Agreeing.{Agrees}
use Rattle.native_lowering_relation.specs.Standing.{Held, Holds, laid}
use Rattle.native_lowering_relation.proofs.Kept.{Among, SameOr}
use Rattle.native_lowering_relation.proofs.Standing.{slot_kept}
use Rattle.native_lowering_walks.specs.Walks.{then as onward, walks}
use Rattle.native_lowering_runs.proofs.Held.{register_written, scratch_written, slot_written}
use Rattle.native_lowering_runs.proofs.Registers.{with_word_at}
use Rattle.native_lowering_runs.proofs.Saved.{or_same, or_written, or_scratch}
use Rattle.native_lowering_passing.specs.Moved.{with_frame}

module _ (functions : List (Named Function)) (room : Option ℕ) (code : List Instruction) (f : FunctionData) (t : State) (back : Option Spot) (under : List Cell) where
  abbrev At : ℕ → List ℕ → Held → State
  At = with_frame t back under

  -- a block of so many instructions leaves these data of Linear, whatever is in the registers past those of Linear but eax
  pub record Received (b : Block) (place : ℕ) (words : List ℕ) (held : Held) (d : Data) : Type 0 where
    pub words' : List ℕ
    pub held' : Held
    pub walk : walks functions room code b (At place words held) ≡ Goes (At (place + length b) words' held')
    pub holds : Holds f d.registers d.slots words' held'
    pub saved : held'.saved ≡ held.saved
    pub kept : SameOr (frame_of f).saved words words'
    pub past : (r : ℕ) → 8 < r → slice_index words' r ≡ slice_index words r

  -- out of a register
  pub puts_received : (l : Location) (source : Register) (v : Option ℕ) (place : ℕ) (words : List ℕ) (held : Held) (d : Data) → Holds f d.registers d.slots words held → LocationFits f.slots l
      → ((r : ℕ) → l ≡ InRegister r → 4 ≤ r → r < 8 → Among r (frame_of f).saved) → Agrees v (word_in source words) → Received (puts (frame_of f) l source) place words held (put_at l v d)
  puts_received (InRegister r) source v place words held d holds fits saved agrees =
      let w = word_in source words in
      record {
        words' = slice_set words r w;
        held' = held;
        walk = ap (λ (ws : List ℕ). Goes (At (place + 1) ws held)) (with_word_at r w words fits);
        holds = register_written f d.registers d.slots words held holds r w v agrees;
        saved = refl;
        kept = or_written (frame_of f).saved words r w (saved r refl);
        past = λ q high. get_or-set_other words r q w 0 (λ e. omega (arith, e, high, fits));
      }
  puts_received (InSlot s) source v place words held d holds fits saved agrees =
      let w = word_in source words in
      record {
        words' = words;
        held' = record held { slots = slice_set held.slots s w };
        walk = ap (λ o. onward (does (option_map (λ cells. with_stack cells (At place words held)) o)) (walks functions room code [])) (slot_kept (frame_of f) held back under holds.full s w fits);
        holds = slot_written f d.registers d.slots words held holds s w v agrees;
        saved = refl;
        kept = or_same (frame_of f).saved words words refl;
        past = λ q high. refl;
      }

  -- out of a cell of the caller's, which holds this word
  pub takes_received : (l : Location) (cell w : ℕ) (v : Option ℕ) (place : ℕ) (words : List ℕ) (held : Held) (d : Data) → Holds f d.registers d.slots words held → LocationFits f.slots l
      → ((r : ℕ) → l ≡ InRegister r → 4 ≤ r → r < 8 → Among r (frame_of f).saved) → word_at (laid held back under) cell ≡ Some w → Agrees v w → Received (takes (frame_of f) l cell) place words held (put_at l v d)
  unfolding number_of
  takes_received (InRegister r) cell w v place words held d holds fits saved there agrees = record {
    words' = slice_set words r w;
    held' = held;
    walk = ap (λ o. onward (does (option_map (λ x. put (register_of r) x (At place words held)) o)) (walks functions room code [])) there
        ∙ ap (λ (ws : List ℕ). Goes (At (place + 1) ws held)) (with_word_at r w words fits);
    holds = register_written f d.registers d.slots words held holds r w v agrees;
    saved = refl;
    kept = or_written (frame_of f).saved words r w (saved r refl);
    past = λ q high. get_or-set_other words r q w 0 (λ e. omega (arith, e, high, fits));
  }
  takes_received (InSlot s) cell w v place words held d holds fits saved there agrees =
      let two : place + 1 + 1 ≡ place + 2 = omega arith in
      let ws = slice_set words 8 w in
      record {
        words' = ws;
        held' = record held { slots = slice_set held.slots s w };
        walk = ap (λ o. onward (does (option_map (λ x. put Eax x (At place words held)) o)) (walks functions room code (Keep (slot_cell (frame_of f) s) Eax ∷ []))) there
            ∙ ap (λ k. onward (does (option_map (λ cells. with_stack cells (At (place + 1) ws held)) (kept (slot_cell (frame_of f) s) k (laid held back under)))) (walks functions room code []))
            (get_or-set_same words 8 w 0 (omega (arith, holds.thirteen)))
            ∙ ap (λ o. onward (does (option_map (λ cells. with_stack cells (At (place + 1) ws held)) o)) (walks functions room code [])) (slot_kept (frame_of f) held back under holds.full s w fits)
            ∙ ap (λ k. Goes (At k ws (record held { slots = slice_set held.slots s w }))) two;
        holds = slot_written f d.registers d.slots ws held (scratch_written f d.registers d.slots words held holds 8 w (omega arith)) s w v agrees;
        saved = refl;
        kept = or_scratch (frame_of f).saved words 8 w (omega arith);
        past = λ q high. get_or-set_other words 8 q w 0 (λ e. omega (arith, e, high));
      }
