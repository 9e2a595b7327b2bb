-- Where the code ends the run stops; and a return of main without a word ends it.
use Rattle.std.proofs.Common.{◌≡◌, ℕ, zero, suc, ◌+◌, ◌≤◌, List, [], ◌∷◌, length, Option, Some, None, refl, ap, subst, ◌∙◌, arith}
use Rattle.std.specs.Prelude.{slice_get}
use Rattle.lang_base.specs.declared.program.Program.{Program}
use Rattle.machine.specs.Fits.{ValueFits}
use Rattle.machine.specs.Frames.{State}
use Rattle.linear_language.specs.declared.instruction.Instruction.{Instruction}
use Rattle.linear_language.specs.declared.instruction.Instruction.TheVariants as l
use Rattle.linear_language.specs.Function.{FunctionData}
use Rattle.x86_syntax.specs.declared.instruction.Instruction.TheVariants.{Stop}
use Rattle.x86_syntax.specs.declared.register.Register.TheVariants.{Eax}
use Rattle.x86_state.specs.State.{State as Native, Ends, Stops, word}
use Rattle.native_lowering_definition.specs.Blocks.{Around, opening}
use Rattle.native_lowering_definition.specs.Facts.{Facts, no_facts, after}
use Rattle.native_lowering_definition.specs.Frames.{frame_of}
use Rattle.native_lowering_definition.specs.Layout.{start, place_in}
use Rattle.native_lowering_definition.specs.Lowering.{known_at, blocks, around_of, code_of, lowered}
use Rattle.native_lowering_definition.specs.Operating.{Block}
use Rattle.native_lowering_layout.proofs.Blocks.{stops_behind}
use Rattle.native_lowering_relation.specs.Related.{Related}
use Rattle.native_lowering_relation.specs.Standing.{put_back}
use Rattle.native_lowering_relation.specs.Waiting.{Wait}
use Rattle.native_lowering_walks.specs.Walks.{then as onward, steps}
use Rattle.native_lowering_walks.proofs.Walking.{step_at}
use Rattle.native_lowering_runs.proofs.Blocks.{lowered_function, lowered_there}
use Rattle.x86.specs.Calling.{returns}
use Rattle.x86_state.specs.declared.cell.Cell.TheVariants.{Back}
use Rattle.x86_state.specs.declared.cell.Spot.{Spot}
use Rattle.native_lowering_calls.proofs.Leaving.{leaving, left, leaving_steps, last_step}
use Rattle.native_lowering_calls.proofs.Straight.{steps_then}
use Rattle.native_lowering_safe_stops.specs.Halting.{Halts}

pub past_end : {A : Type 0} (xs : List A) (k : ℕ) → slice_get xs k ≡ None → length xs ≤ k
past_end [] k e = omega arith
past_end (x ∷ xs) zero e = cc
past_end (x ∷ xs) (suc k) e = let h = past_end xs k e in omega arith

start_past : (bs : List Block) (n : ℕ) → length bs ≤ n → start bs n ≡ start bs (length bs)
start_past [] zero h = refl
start_past [] (suc n) h = refl
start_past (b ∷ bs) zero h = absurd (omega arith)
start_past (b ∷ bs) (suc n) h = ap (λ k. length b + k) (start_past bs n (omega arith))

count : (around : Around) (facts : Facts) (is : List Instruction) → length (blocks around facts is) ≡ length is
count around facts [] = refl
count around facts (i ∷ is) = ap suc (count around (after i (known_at around.code facts i)) is)

place_past : (p : Program FunctionData) (f : FunctionData) (n : ℕ) → length f.code ≤ n → place_in p f n ≡ place_in p f (length f.code)
place_past p f n h =
    let bs = blocks (around_of p f) no_facts f.code in
    let all = count (around_of p f) no_facts f.code in
    let front = length (opening (frame_of f) f.parameters) in
    ap (λ k. front + k) (start_past bs n (omega arith) ∙ ap (start bs) all)

module _ (p : Program FunctionData) (s : State) (t : Native) (related : Related p s t) where
  abbrev f : FunctionData
  f = related.named.function

  pub end_stops : slice_get f.code s.place ≡ None → Halts (lowered p).functions t
  end_stops none =
      let there = lowered_there p related.named t.function (ap (slice_get p.functions) related.function ∙ related.there) in
      let behind = ap (slice_get (code_of p f)) (related.place ∙ place_past p f s.place (past_end f.code s.place none)) ∙ stops_behind p f in
      record {
        count = 1;
        last = Stops;
        go = ap (λ x. onward x (steps (lowered p).functions None 0)) (step_at (lowered p).functions None (lowered_function p related.named) t Stop there behind);
        over = tt;
      }

  pub return_halts : (value : Option ℕ) → slice_get f.code s.place ≡ Some (l.Return value) → ValueFits value → s.callers ≡ [] → Halts (lowered p).functions t
  return_halts value at fits none =
      let end = left p s t related value in
      let n = length (leaving (frame_of f) value) in
      let wait : Wait p [] related.back (put_back (frame_of f).saved related.held.saved t.registers) related.under =
      subst (λ cs. Wait p cs related.back (put_back (frame_of f).saved related.held.saved t.registers) related.under) none related.callers in
      record {
        count = suc n;
        last = Ends (word Eax end);
        go = steps_then (lowered p).functions None n 1 (suc n) t end (Ends (word Eax end)) (omega arith) (leaving_steps p s t related value at fits)
            (ap (λ x. onward x (steps (lowered p).functions None 0))
            (last_step p s t related value at ∙ ap (λ (o : Option Spot). returns (Back o ∷ related.under) end) wait.0));
        over = tt;
      }
