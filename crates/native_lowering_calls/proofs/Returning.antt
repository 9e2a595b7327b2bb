-- A return whole: to the caller, or out of main.
use Rattle.std.proofs.Common.{◌≡◌, ℕ, suc, ◌+◌, List, [], ◌∷◌, length, Option, Some, None, refl, ap, subst, ◌∙◌, arith}
use Rattle.std.specs.Prelude.{slice_get, slice_index}
use Rattle.lang_base.specs.declared.program.Program.{Program}
use Rattle.machine.specs.Fits.{ValueFits}
use Rattle.machine.specs.Frames.{State, Frame as Caller, returned, resumed}
use Rattle.linear_language.specs.declared.instruction.Instruction.TheVariants as l
use Rattle.linear_language.specs.Function.{FunctionData}
use Rattle.x86_state.specs.declared.cell.Cell.TheVariants.{Back}
use Rattle.x86_state.specs.declared.cell.Spot.{Spot}
use Rattle.x86_syntax.specs.Registers.{number_of}
use Rattle.x86_state.specs.State.{State as Native, Goes, Ends}
use Rattle.x86.specs.Calling.{returns}
use Rattle.x86.specs.Meaning.{next}
use Rattle.native_lowering_definition.specs.Frames.{frame_of}
use Rattle.native_lowering_definition.specs.Lowering.{lowered}
use Rattle.native_lowering_relation.specs.Related.{Related}
use Rattle.native_lowering_relation.specs.Waiting.{Wait}
use Rattle.native_lowering_walks.specs.Walks.{then as onward, steps}
use Rattle.native_lowering_runs.specs.Reaching.{Reaches, AreFunctions}
use Rattle.native_lowering_runs.proofs.Saved.{callers_wait, or_same, or_scratch}
use Rattle.native_lowering_relation.proofs.Kept.{SameOr}
use Rattle.native_lowering_calls.proofs.Straight.{steps_then}
use Rattle.native_lowering_calls.proofs.Leaving.{with_value, length-with_value, words_left, left, leaving, leaving_steps, last_step, result_agrees}
use Rattle.native_lowering_calls.proofs.Resuming.{resumes}

-- but eax no register has another word
value_kept : (rs : List ℕ) (value : Option ℕ) (words : List ℕ) → SameOr rs words (with_value value words)
value_kept rs None words = or_same rs words words refl
value_kept rs (Some r) words = or_scratch rs words 8 (slice_index words r) (omega arith)

module _ (p : Program FunctionData) (s : State) (t : Native) (related : Related p s t) (value : Option ℕ) (at : slice_get related.named.function.code s.place ≡ Some (l.Return value)) (fits : ValueFits value) where
  -- the callers wait for what is left
  waits : Wait p s.callers related.back (words_left p s t related value) related.under
  waits = let saved = (frame_of related.named.function).saved in
      callers_wait p s.callers related.back saved related.held.saved t.registers (with_value value t.registers) related.under
      related.holds.thirteen (length-with_value value t.registers ∙ related.holds.thirteen) related.holds.full.saved (value_kept saved value t.registers) related.callers

  -- ---- to the caller

  pub return_reaches : (range : AreFunctions p) (caller : Caller) (callers : List Caller) (v : Option ℕ) → s.callers ≡ caller ∷ callers → returned value s.here ≡ Some v
      → Reaches p None (resumed v s.here caller callers) t
  return_reaches range caller callers v some gives =
      let wait : Wait p (caller ∷ callers) related.back (words_left p s t related value) related.under = subst (λ cs. Wait p cs related.back (words_left p s t related value) related.under) some waits in
      let u : Native = record (left p s t related value) { function = wait.to.function; place = wait.to.place; stack = related.under } in
      let n = length (leaving (frame_of related.named.function) value) in
      let arrived = resumes p range caller callers related.back (words_left p s t related value) related.under wait u v s.here refl refl refl refl related.globals related.output (result_agrees p s t related value v gives) in
      let back_goes : next (lowered p).functions None (left p s t related value) ≡ Goes u =
      last_step p s t related value at ∙ ap (λ (o : Option Spot). returns (Back o ∷ related.under) (left p s t related value)) wait.goes_back in
      record {
        more = n + arrived.count;
        to = arrived.to;
        go = steps_then (lowered p).functions None n (1 + arrived.count) (suc (n + arrived.count)) t (left p s t related value) (Goes arrived.to) (omega arith) (leaving_steps p s t related value at fits)
            (steps_then (lowered p).functions None 1 arrived.count (1 + arrived.count) (left p s t related value) u (Goes arrived.to) refl
            (ap (λ y. onward y (steps (lowered p).functions None 0)) back_goes) arrived.go);
        related = arrived.related;
      }

  -- ---- out of main

  -- so many steps lead to one that ends with this
  pub record EndsWith (w : ℕ) : Type 0 where
    pub count : ℕ
    pub to : Native
    pub go : steps (lowered p).functions None count t ≡ Goes to
    pub ends : next (lowered p).functions None to ≡ Ends w
    pub output : to.output ≡ s.here.output

  pub return_ends : (w : ℕ) → s.callers ≡ [] → returned value s.here ≡ Some (Some w) → EndsWith w
  unfolding number_of
  return_ends w none gives =
      let wait : Wait p [] related.back (words_left p s t related value) related.under = subst (λ cs. Wait p cs related.back (words_left p s t related value) related.under) none waits in
      record {
        count = length (leaving (frame_of related.named.function) value);
        to = left p s t related value;
        go = leaving_steps p s t related value at fits;
        ends = last_step p s t related value at
            ∙ ap (λ (o : Option Spot). returns (Back o ∷ related.under) (left p s t related value)) wait.0
            ∙ ap (λ n. Ends n) (result_agrees p s t related value (Some w) gives);
        output = related.output;
      }
