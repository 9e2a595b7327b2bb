-- Each step of Linear keeps states in range.
use Rattle.std.proofs.Common.{◌≡◌, ℕ, zero, suc, List, [], ◌∷◌, Option, Some, None, subst}
use Rattle.std.specs.Prelude.{slice_get}
use Rattle.std.specs.List.{AllByRecursion}
use Rattle.lang_base.specs.Machine.{Goes}
use Rattle.lang_base.specs.declared.program.Global.{Global}
use Rattle.lang_base.specs.declared.program.Named.{Named}
use Rattle.locations.specs.declared.location.Location.{Location}
use Rattle.locations.specs.declared.location.Location.TheVariants.{InRegister}
use Rattle.machine.specs.Calls.{Callee, values_of, entered}
use Rattle.machine.specs.Data.{Data, value_at}
use Rattle.machine.specs.Frames.{State, Frame as Caller, returned, restored, with_result}
use Rattle.linear_language.specs.Function.{FunctionData, IsFunction, InstructionFits}
use Rattle.linear_language.specs.Meaning.{next, callee_of}
use Rattle.linear_language.specs.declared.instruction.Instruction.TheVariants.{Do}
use Rattle.native_lowering_ranges.specs.Cases.{Cases}
use Rattle.native_lowering_ranges.specs.InRange.{DataInRange, CallerInRange, InRange}
use Rattle.native_lowering_ranges.proofs.Acts.{act_range}
use Rattle.native_lowering_ranges.proofs.Cased.{cased}
use Rattle.native_lowering_ranges.proofs.Words.{same_some, IsWord, none_words, after_words, value_word, put_range, moved_range, all_moved_range, values_words, arguments_range}

all_at : {A : Type 0} (P : A → Type 0) (xs : List A) (k : ℕ) (x : A) → AllByRecursion P xs → slice_get xs k ≡ Some x → P x
all_at P [] k x all e = cc
all_at P (y ∷ xs) zero x all e = let same : y ≡ x = cc in subst P same all.0
all_at P (y ∷ xs) (suc k) x all e = all_at P xs k x all.1 e

module _ (declared : List Global) where
  entered_range : (callee : Callee) (vs : List (Option ℕ)) (d : Data) → DataInRange declared d → AllByRecursion IsWord vs → DataInRange declared (entered callee vs d)
  entered_range callee vs d range words = arguments_range declared callee.parameters vs _ (record {
    registers = none_words 8;
    slots = none_words callee.slots;
    globals = range.globals;
    declared_so = range.declared_so;
  }) words

  result_range : (target : Option Location) (v : Option ℕ) (d : Data) → DataInRange declared d → IsWord v → DataInRange declared (with_result target v d)
  result_range None v d range word = range
  result_range (Some l) v d range word = put_range declared l v d range word

  restored_range : (caller : Caller) (d : Data) → CallerInRange caller → DataInRange declared d → DataInRange declared (restored caller d)
  restored_range caller d caller_range range = record {
    registers = after_words caller.registers caller_range.registers;
    slots = caller_range.slots;
    globals = range.globals;
    declared_so = range.declared_so;
  }

  -- what is given back
  abbrev gives : Option ℕ → Option (Option ℕ)
  gives None = None
  gives (Some w) = Some (Some w)

  given_word : (o v : Option ℕ) → IsWord o → gives o ≡ Some v → IsWord v
  given_word None v word e = cc
  given_word (Some w) v word e = subst IsWord (same_some (Some w) v e) word

  returned_word : (value v : Option ℕ) (d : Data) → DataInRange declared d → returned value d ≡ Some v → IsWord v
  returned_word None v d range e = subst IsWord (same_some None v e) (λ x h. cc)
  returned_word (Some r) v d range e = given_word (value_at (InRegister r) d) v (value_word declared (InRegister r) d range) e

  pub keeps_range : (functions : List (Named FunctionData)) (named : Named FunctionData) (s s' : State) → slice_get functions s.function ≡ Some named → IsFunction named.function → InRange declared s
      → next functions s ≡ Goes s' → InRange declared s'
  keeps_range functions named s s' there fits range e = cased functions named s s' (InRange declared) cases there e
    where
      cases : Cases functions named.function.code s (InRange declared)
      cases = record {
        act = λ act d at does_it. record {
          here = act_range declared s.here range.here act d (all_at (InstructionFits named.function.slots) named.function.code s.place (Do act) fits.each at) does_it;
          callers = range.callers;
        };
        copy = λ step at. record { here = moved_range declared step s.here range.here; callers = range.callers };
        label = λ label at. record { here = range.here; callers = range.callers };
        goto = λ label m at there. record { here = range.here; callers = range.callers };
        taken = λ test label m at held there. record { here = range.here; callers = range.callers };
        not_taken = λ test label at held. record { here = range.here; callers = range.callers };
        call = λ callee arguments target g at there count. record {
          here = entered_range (callee_of g) (values_of arguments s.here) s.here range.here (values_words declared arguments s.here range.here);
          callers = (record { registers = range.here.registers; slots = range.here.slots }, range.callers);
        };
        back = λ value v caller callers at some given.
            let all : AllByRecursion CallerInRange (caller ∷ callers) = subst (AllByRecursion CallerInRange) some range.callers in
            record {
              here = all_moved_range declared caller.moves (with_result caller.target v (restored caller s.here))
                  (result_range caller.target v (restored caller s.here) (restored_range caller s.here all.0 range.here) (returned_word value v s.here range.here given));
              callers = all.1;
            };
      }
