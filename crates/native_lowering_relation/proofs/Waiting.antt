-- Callers wait as before where r4 to r7 are as before.
use Rattle.std.proofs.Common.{◌≡◌, ℕ, zero, suc, ◌<◌, List, [], ◌∷◌, length, Option, Some, None, sym, subst, ◌∙◌, arith, inr}
use Rattle.std.specs.Prelude.{slice_index, slice_index_or}
use Rattle.lang_base.specs.declared.program.Program.{Program}
use Rattle.machine.specs.Frames.{Frame as Caller, after_call}
use Rattle.machine.proofs.Words.{after_call-lost, length-after_call}
use Rattle.linear_language.specs.Function.{FunctionData}
use Rattle.x86_state.specs.declared.cell.Cell.{Cell}
use Rattle.x86_state.specs.declared.cell.Spot.{Spot}
use Rattle.native_lowering_definition.specs.Frames.{frame_of}
use Rattle.native_lowering_relation.specs.Agreeing.{Agrees, AgreeEach}
use Rattle.native_lowering_relation.specs.Standing.{Held, Holds, put_back}
use Rattle.native_lowering_relation.specs.Waiting.{Wait}
use Rattle.native_lowering_relation.proofs.Agreeing.{agree_at, agree_from}
use Rattle.native_lowering_relation.proofs.Kept.{SameKept, same_put, length-put_back}

undefined : (v : Option ℕ) (w : ℕ) → v ≡ None → Agrees v w
undefined None w e = tt
undefined (Some x) w e = cc

agrees_same : (v : Option ℕ) (w x : ℕ) → Agrees v w → x ≡ w → Agrees v x
agrees_same v w x agrees e = subst (Agrees v) (sym e) agrees

agree_kept : (registers : List (Option ℕ)) (words words' : List ℕ) → length registers ≡ 8 → length words' ≡ 13 → SameKept words words' → AgreeEach (after_call registers) words → AgreeEach (after_call registers) words'
agree_kept registers words words' eight full same agree =
    let count = length-after_call registers in
    agree_from (after_call registers) words' (omega (arith, count)) (λ r h. at r (omega (arith, count, h)))
  where
    lost : (r : ℕ) → r < 4 → Agrees (slice_index_or (after_call registers) r None) (slice_index words' r)
    lost r h = undefined _ _ (after_call-lost registers r h)

    at : (r : ℕ) → r < 8 → Agrees (slice_index_or (after_call registers) r None) (slice_index words' r)
    at zero h = lost 0 (omega arith)
    at (suc zero) h = lost 1 (omega arith)
    at (suc (suc zero)) h = lost 2 (omega arith)
    at (suc (suc (suc zero))) h = lost 3 (omega arith)
    at (suc (suc (suc (suc r)))) h = agrees_same _ _ _ (agree_at (after_call registers) words (suc (suc (suc (suc r)))) agree) (same.each (suc (suc (suc (suc r)))) (omega arith) h)

holds_kept : (f : FunctionData) (registers slots : List (Option ℕ)) (words words' : List ℕ) (held : Held) → length words' ≡ 13 → SameKept words words'
    → Holds f (after_call registers) slots words held → Holds f (after_call registers) slots words' held
holds_kept f registers slots words words' held full same holds = record {
  eight = holds.eight;
  thirteen = full;
  agree = agree_kept registers words words' (sym (length-after_call registers) ∙ holds.eight) full same holds.agree;
  count = holds.count;
  agree_slots = holds.agree_slots;
  full = holds.full;
}

pub wait_kept : (p : Program FunctionData) (callers : List Caller) (back : Option Spot) (words words' : List ℕ) (cells : List Cell) → length words' ≡ 13 → SameKept words words'
    → Wait p callers back words cells → Wait p callers back words' cells
wait_kept p [] back words words' cells full same wait = wait
wait_kept p (caller ∷ callers) back words words' cells full same wait =
    let saved = (frame_of wait.named.function).saved in
    record {
      to = wait.to;
      named = wait.named;
      held = wait.held;
      further = wait.further;
      rest = wait.rest;
      goes_back = wait.goes_back;
      there = wait.there;
      goes_on = wait.goes_on;
      holds = holds_kept wait.named.function caller.registers caller.slots words words' wait.held full same wait.holds;
      stands = wait.stands;
      under = wait_kept p callers wait.further (put_back saved wait.held.saved words) (put_back saved wait.held.saved words') wait.rest
          (length-put_back saved wait.held.saved words' ∙ full)
          (same_put saved wait.held.saved words words' wait.holds.thirteen full (wait.holds.full.saved) (λ q low high. inr (same.each q low high)))
          wait.under;
    }
