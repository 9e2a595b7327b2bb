-- Each step of Linear that goes on is one step or more of native code.
use Rattle.std.proofs.Common.{◌≡◌, ◌+◌, true, false, List, Some, None, refl}
use Rattle.std.specs.Prelude.{slice_get}
use Rattle.lang_base.specs.Machine.{Goes}
use Rattle.lang_base.specs.declared.program.Program.{Program}
use Rattle.machine.specs.Frames.{State}
use Rattle.linear_language.specs.declared.instruction.Instruction.{Instruction}
use Rattle.linear_language.specs.declared.instruction.Instruction.TheVariants.{Do, Copy, Call, Branch, Return}
use Rattle.linear_language.specs.Function.{FunctionData, InstructionFits}
use Rattle.linear_language.specs.Meaning.{next}
use Rattle.x86_state.specs.State.{State as Native}
use Rattle.native_lowering_relation.specs.Related.{Related}
use Rattle.native_lowering_runs.specs.Reaching.{Reaches, AreFunctions}
use Rattle.native_lowering_runs.proofs.Lists.{all_at}
use Rattle.native_lowering_moves.proofs.Branches.{branch_reaches}
use Rattle.native_lowering_moves.proofs.Jumps.{label_reaches, goto_reaches}
use Rattle.native_lowering_moves.proofs.Moves.{move_reaches}
use Rattle.native_lowering_acts.proofs.Acts.{act_reaches}
use Rattle.native_lowering_calls.proofs.Calling.{call_reaches}
use Rattle.native_lowering_calls.proofs.Returning.{return_reaches}
use Rattle.native_lowering_ranges.specs.Cases.{Cases}
use Rattle.native_lowering_ranges.specs.InRange.{InRange}
use Rattle.native_lowering_ranges.proofs.Cased.{cased}

module _ (p : Program FunctionData) (range : AreFunctions p) (s : State) (t : Native) (related : Related p s t) (words : InRange p.globals s) where
  abbrev code : List Instruction
  code = related.named.function.code

  -- an instruction of the function is in range
  fits : (i : Instruction) → slice_get code s.place ≡ Some i → InstructionFits related.named.function.slots i
  fits i at = all_at (InstructionFits related.named.function.slots) code s.place i (range s.function related.named related.there).each at

  steps_on : Cases p.functions code s (λ s'. Reaches p None s' t)
  steps_on = record {
    act = λ act d at does_it. act_reaches p None s t related words.here.registers words.here.declared_so act d at (fits (Do act) at) does_it;
    copy = λ step at. move_reaches p None s t related step at (fits (Copy step) at);
    label = λ label at. label_reaches p None s t related label at;
    goto = λ label m at there. goto_reaches p None s t related label m at there;
    taken = λ test label m at held there. branch_reaches p None s t related test label m true at (fits (Branch test label) at).0 held there;
    not_taken = λ test label at held. branch_reaches p None s t related test label (s.place + 1) false at (fits (Branch test label) at).0 held refl;
    call = λ callee arguments target g at there count.
        call_reaches p s t related callee arguments target g at (fits (Call callee arguments target) at) there count (range callee g there);
    back = λ value v caller callers at some gives. return_reaches p s t related value at (fits (Return value) at) range caller callers v some gives;
  }

  pub stepped : (s' : State) → next p.functions s ≡ Goes s' → Reaches p None s' t
  stepped s' e = cased p.functions related.named s s' (λ x. Reaches p None x t) steps_on related.there e
