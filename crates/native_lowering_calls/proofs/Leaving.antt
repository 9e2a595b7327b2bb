-- A return up to its last instruction: the result is in eax, registers are put back, and the way back is on top of the stack.
use Rattle.std.proofs.Common.{◌≡◌, ℕ, ◌+◌, List, [], ◌∷◌, ◌++◌, length, Option, Some, None, refl, sym, ap, subst, ◌∙◌, arith, length-append, append_assoc}
use Rattle.std.specs.Prelude.{slice_get, slice_index, slice_set}
use Rattle.std.specs.Option.{option_map}
use Rattle.std.proofs.lemmas.List.{get_or-set_same, length-set}
use Rattle.lang_base.specs.declared.program.Program.{Program}
use Rattle.locations.specs.declared.location.Location.TheVariants.{InRegister}
use Rattle.machine.specs.Data.{value_at}
use Rattle.machine.specs.Fits.{ValueFits}
use Rattle.machine.specs.Frames.{State, returned}
use Rattle.linear_language.specs.declared.instruction.Instruction.TheVariants as l
use Rattle.linear_language.specs.Function.{FunctionData}
use Rattle.x86_syntax.specs.Registers.{number_of}
use Rattle.x86_syntax.specs.declared.instruction.Instruction.TheVariants.{Shrink, Return}
use Rattle.x86_syntax.specs.declared.register.Register.TheVariants.{Eax}
use Rattle.x86_state.specs.declared.cell.Cell.{Cell}
use Rattle.x86_state.specs.declared.cell.Cell.TheVariants.{Back}
use Rattle.x86_state.specs.State.{State as Native, Goes, does, with_flags, with_stack}
use Rattle.x86.specs.Calling.{returns}
use Rattle.x86.specs.Meaning.{next}
use Rattle.native_lowering_definition.specs.Blocks.{leaves, result, restores}
use Rattle.native_lowering_definition.specs.Frames.{Frame, frame_of, size_of, saved_cell}
use Rattle.native_lowering_definition.specs.Locations.{register_of}
use Rattle.native_lowering_definition.specs.Lowering.{lowered, code_of}
use Rattle.native_lowering_definition.specs.Operating.{Block}
use Rattle.native_lowering_layout.proofs.Blocks.{stands_in}
use Rattle.native_lowering_layout.proofs.Joined.{get_left, get_right}
use Rattle.native_lowering_relation.specs.Agreeing.{Agrees}
use Rattle.native_lowering_relation.specs.Related.{Related}
use Rattle.native_lowering_relation.specs.Standing.{Held, put_back}
use Rattle.native_lowering_relation.proofs.Agreeing.{agree_at}
use Rattle.native_lowering_relation.proofs.Standing.{all_shrunk}
use Rattle.native_lowering_walks.specs.Walks.{then as onward, steps, walks, StandAt}
use Rattle.native_lowering_walks.proofs.Straight.{copy_below, shrink_below}
use Rattle.native_lowering_walks.proofs.Walking.{walks_on, step_at}
use Rattle.native_lowering_runs.proofs.Blocks.{AllBelow, all_straight, below_both, walks_then, lowered_function, lowered_there}
use Rattle.native_lowering_runs.proofs.Registers.{word_is_at}
use Rattle.native_lowering_passing.specs.Moved.{with_frame}
use Rattle.native_lowering_calls.proofs.Framing.{saved_fit}
use Rattle.native_lowering_calls.proofs.Straight.{below_restores}
use Rattle.native_lowering_calls.proofs.Restoring.{restores_goes, put_back_high, length-restores}

-- the registers once eax has the result
abbrev pub with_value : Option ℕ → List ℕ → List ℕ
with_value None words = words
with_value (Some r) words = slice_set words 8 (slice_index words r)

pub length-with_value : (value : Option ℕ) (words : List ℕ) → length (with_value value words) ≡ length words
length-with_value None words = refl
length-with_value (Some r) words = length-set words 8 (slice_index words r)

below_result : (value : Option ℕ) → AllBelow (result value)
below_result None = tt
below_result (Some r) = (copy_below Eax (register_of r), tt)

-- all but the last instruction
abbrev pub leaving : Frame → Option ℕ → Block
leaving frame value = result value ++ (restores (saved_cell frame) frame.saved ++ Shrink (size_of frame) ∷ [])

below_leaving : (frame : Frame) (value : Option ℕ) → AllBelow (leaving frame value)
below_leaving frame value = below_both (result value) _ (below_result value)
    (below_both (restores (saved_cell frame) frame.saved) (Shrink (size_of frame) ∷ []) (below_restores (saved_cell frame) frame.saved) (shrink_below (size_of frame), tt))

leaves_split : (frame : Frame) (value : Option ℕ) → leaves frame value ≡ leaving frame value ++ Return ∷ []
leaves_split frame value =
    let last = Shrink (size_of frame) ∷ [] in
    let middle = restores (saved_cell frame) frame.saved in
    ap (λ (b : Block). result value ++ b) (sym (append_assoc middle last (Return ∷ [])))
    ∙ sym (append_assoc (result value) (middle ++ last) (Return ∷ []))

module _ (p : Program FunctionData) (s : State) (t : Native) (related : Related p s t) (value : Option ℕ) where
  abbrev f : FunctionData
  f = related.named.function

  abbrev frame : Frame
  frame = frame_of f

  abbrev At : ℕ → List ℕ → Held → Native
  At = with_frame t related.back related.under

  -- the registers of the caller, and the result
  abbrev pub words_left : List ℕ
  words_left = put_back frame.saved related.held.saved (with_value value t.registers)

  -- the state before the last instruction
  abbrev pub left : Native
  left = record t { place = t.place + length (leaving frame value); registers = words_left; flags = None; stack = Back related.back ∷ related.under }

  result_goes : (o : Option ℕ) → ValueFits o
      → walks (lowered p).functions None (code_of p f) (result o) (At t.place t.registers related.held) ≡ Goes (At (t.place + length (result o)) (with_value o t.registers) related.held)
  unfolding number_of
  result_goes None fits = ap (λ k. Goes (At k t.registers related.held)) (omega arith)
  result_goes (Some r) fits = ap (λ w. Goes (At (t.place + 1) (slice_set t.registers 8 w) related.held)) (word_is_at r t.registers fits)

  leaving_goes : ValueFits value → walks (lowered p).functions None (code_of p f) (leaving frame value) t ≡ Goes left
  leaving_goes fits =
      let first = result value in
      let second = restores (saved_cell frame) frame.saved in
      let third = Shrink (size_of frame) ∷ [] in
      let words1 = with_value value t.registers in
      let here = t.place + length first in
      let below = here + length frame.saved in
      let end : Native = record t { place = below + 1; registers = words_left; flags = None; stack = Back related.back ∷ related.under } in
      let far : below + 1 ≡ t.place + length (leaving frame value) = rw length-append (rw length-append (omega (arith, length-restores (saved_cell frame) frame.saved))) in
      ap (λ (cs : List Cell). walks (lowered p).functions None (code_of p f) (leaving frame value) (record t { stack = cs })) related.stands
      ∙ walks_then (lowered p).functions None (code_of p f) first (second ++ third) (At t.place t.registers related.held) (At here words1 related.held) (Goes end) (result_goes value fits)
      (walks_then (lowered p).functions None (code_of p f) second third (At here words1 related.held) (At below words_left related.held) (Goes end)
      (restores_goes (lowered p).functions None (code_of p f) frame t related.back related.under here words1 related.held related.holds.full (saved_fit f))
      (ap (λ o. onward (does (option_map (λ (cells : List Cell). with_flags None (with_stack cells (At below words_left related.held))) o)) (walks (lowered p).functions None (code_of p f) []))
      (all_shrunk frame related.held related.back related.under related.holds.full)))
      ∙ ap (λ k. Goes (record end { place = k })) far

  there : slice_get (lowered p).functions t.function ≡ Some (lowered_function p related.named)
  there = lowered_there p related.named t.function (ap (slice_get p.functions) related.function ∙ related.there)

  part_stands : slice_get f.code s.place ≡ Some (l.Return value) → StandAt (leaving frame value) t.place (code_of p f)
  part_stands at = λ j i inside.
      stands_in p f s.place j (t.place + j) (l.Return value) i at
      (ap (λ (b : Block). slice_get b j) (leaves_split frame value) ∙ get_left (leaving frame value) (Return ∷ []) j i inside)
      (ap (λ m. m + j) related.place)

  last_stands : slice_get f.code s.place ≡ Some (l.Return value) → slice_get (code_of p f) (t.place + length (leaving frame value)) ≡ Some Return
  last_stands at = let n = length (leaving frame value) in
      stands_in p f s.place n (t.place + n) (l.Return value) Return at
      (ap (λ (b : Block). slice_get b n) (leaves_split frame value) ∙ get_right (leaving frame value) (Return ∷ []) 0 n (omega arith))
      (ap (λ m. m + n) related.place)

  pub leaving_steps : slice_get f.code s.place ≡ Some (l.Return value) → ValueFits value → steps (lowered p).functions None (length (leaving frame value)) t ≡ Goes left
  leaving_steps at fits =
      walks_on (lowered p).functions None (lowered_function p related.named) (leaving frame value) t there (part_stands at) (all_straight (leaving frame value) (below_leaving frame value))
      ∙ leaving_goes fits

  -- the last one
  pub last_step : slice_get f.code s.place ≡ Some (l.Return value) → next (lowered p).functions None left ≡ returns (Back related.back ∷ related.under) left
  last_step at = step_at (lowered p).functions None (lowered_function p related.named) left Return there (last_stands at)

  -- ---- eax has what is returned

  -- what is given back where a register is named
  abbrev gives : Option ℕ → Option (Option ℕ)
  gives None = None
  gives (Some w) = Some (Some w)

  returned_is : (r : ℕ) → returned (Some r) s.here ≡ gives (value_at (InRegister r) s.here)
  returned_is r = refl

  same_given : (o v : Option ℕ) → gives o ≡ Some v → v ≡ o
  same_given None v e = cc
  same_given (Some w) v e = let same : Some w ≡ v = cc in sym same

  value_agrees : (o v : Option ℕ) → returned o s.here ≡ Some v → Agrees v (slice_index (with_value o t.registers) 8)
  value_agrees None v e = let nothing : None ≡ v = cc in
      subst (λ x. Agrees x (slice_index t.registers 8)) nothing tt
  value_agrees (Some r) v e =
      let defined : v ≡ value_at (InRegister r) s.here = same_given (value_at (InRegister r) s.here) v (sym (returned_is r) ∙ e) in
      let w = slice_index t.registers r in
      subst (λ x. Agrees x (slice_index (slice_set t.registers 8 w) 8)) (sym defined)
      (subst (Agrees (value_at (InRegister r) s.here)) (sym (get_or-set_same t.registers 8 w 0 (omega (arith, related.holds.thirteen))))
      (agree_at s.here.registers t.registers r related.holds.agree))

  pub result_agrees : (v : Option ℕ) → returned value s.here ≡ Some v → Agrees v (slice_index words_left 8)
  result_agrees v e =
      subst (Agrees v) (sym (put_back_high frame.saved related.held.saved (with_value value t.registers) 8 (omega arith) (saved_fit f))) (value_agrees value v e)
