-- A move between a register and a slot, or two registers, is one step.
use Rattle.std.proofs.Common.{◌≡◌, ℕ, ◌+◌, ◌<◌, List, [], ◌∷◌, length, Option, Some, None, refl, sym, ap, subst, ◌∙◌}
use Rattle.std.specs.Prelude.{slice_get, slice_index, slice_set}
use Rattle.std.specs.Option.{option_map}
use Rattle.lang_base.specs.declared.program.Program.{Program}
use Rattle.locations.specs.declared.location.Location.{Location}
use Rattle.locations.specs.declared.location.Location.TheVariants.{InRegister, InSlot}
use Rattle.locations.specs.declared.location.Move.{Move}
use Rattle.machine.specs.Data.{Data, value_at, moved}
use Rattle.machine.specs.Fits.{LocationFits, HasRegister, MoveFits}
use Rattle.machine.specs.Frames.{State}
use Rattle.linear_language.specs.declared.instruction.Instruction.TheVariants as l
use Rattle.linear_language.specs.Function.{FunctionData}
use Rattle.x86_syntax.specs.declared.instruction.Instruction.TheVariants.{Copy, Take, Keep}
use Rattle.x86_state.specs.Cells.{word_at, kept}
use Rattle.x86_state.specs.Registers.{word_in}
use Rattle.x86_state.specs.State.{State as Native, Goes, does, put, with_stack}
use Rattle.x86_state.specs.declared.cell.Cell.{Cell}
use Rattle.native_lowering_definition.specs.Blocks.{block}
use Rattle.native_lowering_definition.specs.Frames.{frame_of, slot_cell}
use Rattle.native_lowering_definition.specs.Layout.{facts_in}
use Rattle.native_lowering_definition.specs.Lowering.{around_of, lowered, code_of}
use Rattle.native_lowering_definition.specs.Locations.{register_of}
use Rattle.native_lowering_definition.specs.Operating.{Block}
use Rattle.native_lowering_relation.specs.Agreeing.{Agrees}
use Rattle.native_lowering_relation.specs.Related.{Related}
use Rattle.native_lowering_relation.specs.Standing.{Held, Holds, laid}
use Rattle.native_lowering_relation.proofs.Agreeing.{agree_at}
use Rattle.native_lowering_relation.proofs.Knowing.{so_set}
use Rattle.native_lowering_relation.proofs.Standing.{slot_at, slot_kept}
use Rattle.native_lowering_walks.specs.Walks.{then as onward, steps, walks, GoStraight}
use Rattle.native_lowering_runs.specs.Reaching.{Reaches}
use Rattle.native_lowering_runs.proofs.Below.{Leaves, goes_below}
use Rattle.native_lowering_runs.proofs.Blocks.{block_runs}
use Rattle.native_lowering_runs.proofs.Held.{register_written, slot_written}
use Rattle.native_lowering_runs.proofs.Registers.{number_is, with_word_at, word_is_at}
use Rattle.native_lowering_runs.proofs.Saved.{or_written, or_same, written_saved, target_written}

-- the word at a location, in native registers and the frame
abbrev pub word_there : Location → List ℕ → Held → ℕ
word_there (InRegister r) words held = slice_index words r
word_there (InSlot s) words held = slice_index held.slots s

pub word_agrees : (f : FunctionData) (d : Data) (words : List ℕ) (held : Held) → Holds f d.registers d.slots words held → (source : Location) → Agrees (value_at source d) (word_there source words held)
word_agrees f d words held holds (InRegister r) = agree_at d.registers words r holds.agree
word_agrees f d words held holds (InSlot s) = agree_at d.slots held.slots s holds.agree_slots

taken_goes : (w : ℕ) (o : Option ℕ) (f : ℕ → Native) → o ≡ Some w → does (option_map f o) ≡ Goes (record (f w) { place = (f w).place + 1 })
taken_goes w o f e = ap (λ (x : Option ℕ). does (option_map f x)) e

kept_goes : (t : Native) (cells : List Cell) (o : Option (List Cell)) → o ≡ Some cells → does (option_map (λ cs. with_stack cs t) o) ≡ Goes (record t { place = t.place + 1; stack = cells })
kept_goes t cells o e = ap (λ (x : Option (List Cell)). does (option_map (λ cs. with_stack cs t) x)) e

module _ (p : Program FunctionData) (room : Option ℕ) (s : State) (t : Native) (related : Related p s t) where
  abbrev f : FunctionData
  f = related.named.function

  abbrev held : Held
  held = related.held

  abbrev Walks : Block → Native → Type 0
  Walks b u = walks (lowered p).functions room (code_of p f) b t ≡ Goes u

  -- a block of one instruction, which leaves this
  one_reaches : (step : Move) (b : Block) (u : Native) (held' : Held) → GoStraight b → length b ≡ 1 → Walks b u → Leaves p s t related (l.Copy step) b (moved step s.here) u held'
      → Reaches p room (record s { place = s.place + 1; here = moved step s.here }) t
  one_reaches step b u held' straight one walk leaves = record {
    more = 0;
    to = u;
    go = subst (λ n. steps (lowered p).functions room n t ≡ Goes u) one
        (block_runs p related.named room s.place (l.Copy step) b t (Goes u) (ap (slice_get p.functions) related.function ∙ related.there) leaves.at related.place leaves.is_it straight walk);
    related = goes_below p s t related (l.Copy step) b (moved step s.here) u held' leaves;
  }

  -- to a register
  abbrev with_register : ℕ → ℕ → Native
  with_register r w = record t { place = t.place + 1; registers = slice_set t.registers r w }

  to_register : (r : ℕ) (source : Location) (b : Block) → slice_get f.code s.place ≡ Some (l.Copy (record { target = InRegister r; source = source })) → r < 8
      → block (around_of p f) (facts_in f s.place) (l.Copy (record { target = InRegister r; source = source })) ≡ b → length b ≡ 1
      → Leaves p s t related (l.Copy (record { target = InRegister r; source = source })) b (moved (record { target = InRegister r; source = source }) s.here)
      (with_register r (word_there source t.registers held)) held
  to_register r source b at near is_it one =
      let w = word_there source t.registers held in
      record {
        at = at;
        is_it = is_it;
        function = refl;
        place = ap (λ n. t.place + n) (sym one);
        globals = related.globals;
        output = related.output;
        stands = related.stands;
        saved = refl;
        holds = register_written f s.here.registers s.here.slots t.registers held related.holds r w (value_at source s.here) (word_agrees f s.here t.registers held related.holds source);
        known = so_set (facts_in f s.place) s.here.registers t.flags t.registers r w None (value_at source s.here) related.known tt;
        kept = or_written (frame_of f).saved t.registers r w (written_saved f r (target_written f s.place r (l.Copy (record { target = InRegister r; source = source })) at refl));
      }

  -- to a slot
  abbrev slot_held : ℕ → ℕ → Held
  slot_held k w = record held { slots = slice_set held.slots k w }

  abbrev with_slot : ℕ → ℕ → Native
  with_slot k w = record t { place = t.place + 1; stack = laid (slot_held k w) related.back related.under }

  to_slot : (k q : ℕ) → slice_get f.code s.place ≡ Some (l.Copy (record { target = InSlot k; source = InRegister q }))
      → Leaves p s t related (l.Copy (record { target = InSlot k; source = InRegister q })) (Keep (slot_cell (frame_of f) k) (register_of q) ∷ [])
      (moved (record { target = InSlot k; source = InRegister q }) s.here) (with_slot k (slice_index t.registers q)) (slot_held k (slice_index t.registers q))
  to_slot k q at =
      let w = slice_index t.registers q in
      record {
        at = at;
        is_it = refl;
        function = refl;
        place = refl;
        globals = related.globals;
        output = related.output;
        stands = refl;
        saved = refl;
        holds = slot_written f s.here.registers s.here.slots t.registers held related.holds k w (value_at (InRegister q) s.here)
            (agree_at s.here.registers t.registers q related.holds.agree);
        known = related.known;
        kept = or_same (frame_of f).saved t.registers t.registers refl;
      }

  -- the cell of a slot
  slot_word : (k : ℕ) → k < f.slots → word_at t.stack (slot_cell (frame_of f) k) ≡ Some (slice_index held.slots k)
  slot_word k within = ap (λ cs. word_at cs (slot_cell (frame_of f) k)) related.stands ∙ slot_at (frame_of f) held related.back related.under related.holds.full k within

  slot_keeps : (k w : ℕ) → k < f.slots → kept (slot_cell (frame_of f) k) w t.stack ≡ Some (laid (slot_held k w) related.back related.under)
  slot_keeps k w within = ap (kept (slot_cell (frame_of f) k) w) related.stands ∙ slot_kept (frame_of f) held related.back related.under related.holds.full k w within

  between : (target source : Location) → slice_get f.code s.place ≡ Some (l.Copy (record { target = target; source = source }))
      → LocationFits f.slots target → LocationFits f.slots source → HasRegister target source
      → Reaches p room (record s { place = s.place + 1; here = moved (record { target = target; source = source }) s.here }) t
  between (InRegister r) (InRegister q) at near near' through =
      let w = slice_index t.registers q in
      let b = Copy (register_of r) (register_of q) ∷ [] in
      one_reaches (record { target = InRegister r; source = InRegister q }) b (with_register r w) held tt refl
      ((λ i. Goes (record t { place = t.place + 1; registers = slice_set t.registers (number_is r near i) (slice_index t.registers (number_is q near' i)) })))
      (to_register r (InRegister q) b at near refl refl)
  between (InRegister r) (InSlot k) at near within through =
      let w = slice_index held.slots k in
      let b = Take (register_of r) (slot_cell (frame_of f) k) ∷ [] in
      one_reaches (record { target = InRegister r; source = InSlot k }) b (with_register r w) held tt refl
      (ap (λ x. onward x (walks (lowered p).functions room (code_of p f) [])) (taken_goes w (word_at t.stack (slot_cell (frame_of f) k)) (λ v. put (register_of r) v t) (slot_word k within))
      ∙ ap (λ (ws : List ℕ). Goes (record t { place = t.place + 1; registers = ws })) (with_word_at r w t.registers near))
      (to_register r (InSlot k) b at near refl refl)
  between (InSlot k) (InRegister q) at within near through =
      let w = slice_index t.registers q in
      let b = Keep (slot_cell (frame_of f) k) (register_of q) ∷ [] in
      one_reaches (record { target = InSlot k; source = InRegister q }) b (with_slot k w) (slot_held k w) tt refl
      (ap (λ x. onward x (walks (lowered p).functions room (code_of p f) []))
      (kept_goes t (laid (slot_held k w) related.back related.under) (kept (slot_cell (frame_of f) k) (word_in (register_of q) t.registers) t.stack)
      (ap (λ v. kept (slot_cell (frame_of f) k) v t.stack) (word_is_at q t.registers near) ∙ slot_keeps k w within)))
      (to_slot k q at)
  between (InSlot k) (InSlot j) at within within' through = absurd through

  pub move_reaches : (step : Move) → slice_get f.code s.place ≡ Some (l.Copy step) → MoveFits f.slots step
      → Reaches p room (record s { place = s.place + 1; here = moved step s.here }) t
  move_reaches step at fits = between step.target step.source at fits.target fits.source fits.through
