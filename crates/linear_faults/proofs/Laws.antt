-- A run has a fault exactly where it is wrong, and its cause holds there: by each part of the meaning.
use Rattle.std.proofs.Common.{◌≡◌, ◌≢◌, ℕ, zero, suc, ◌+◌, cond, ltb, Bool, true, false, List, [], ◌∷◌, length, Option, Some, None, is_some, refl, sym, ap, ◌∙◌, subst, rules}
use Rattle.std.specs.Prelude.{slice_get, slice_set, nat_lt, option_and_then}
use Rattle.std.proofs.lemmas.Bool.{eq-eqb, ltb-false, false≢true}
use Rattle.std.specs.Option.{option_map}
use Rattle.std.proofs.lemmas.List.{length-map}
use Rattle.std.proofs.lemmas.Option.{slice_get_past}
use Rattle.ints.specs.declared.operators.Op.{Op}
use Rattle.ints.specs.MachineTable.{machine_table}
use Rattle.lang_base.specs.Machine.{Next, Goes, Ends, Fails, showing, shows}
use Rattle.lang_base.specs.declared.program.Named.{Named}
use Rattle.locations.specs.declared.location.Location.TheVariants.{InRegister}
use Rattle.machine.specs.declared.act.Act.{Act}
use Rattle.machine.specs.declared.act.Act.TheVariants.{Constant, Operate, Load, Store, Put}
use Rattle.machine.specs.declared.arguments.Arguments.{Arguments}
use Rattle.machine.specs.declared.arguments.Arguments.TheVariants as A
use Rattle.machine.specs.Acts.{pair_of, words_of, given, word_in, changed, stored, printing, does, holds}
use Rattle.machine.specs.Calls.{begun, calls, values_of, waiting}
use Rattle.machine.specs.Data.{Data, value_at}
use Rattle.machine.specs.Frames.{Frame, State, printed, goes_to, returned, comes_back}
use Rattle.linear_language.specs.declared.instruction.Instruction.{Instruction}
use Rattle.linear_language.specs.declared.instruction.Instruction.TheVariants.{Do, Copy, Call, Branch, Return, Label, Goto}
use Rattle.linear_language.specs.Function.{FunctionData}
use Rattle.linear_language.specs.Labels.{place_of}
use Rattle.linear_language.specs.Meaning.{jumps, branches, callee_of, instruction_step, function_step, next}
use Rattle.linear_faults.specs.Causes.{cause_of_one, cause_of_two, cause_of_operator, cause_of_load, cause_of_store, cause_of_act, cause_of_asked, cause_of_both, cause_of_branch, cause_of_given, cause_of_call, cause_at, cause_in}
use Rattle.linear_faults.specs.Faults.{found_by, fault_at, fault_from, is_wrong, HasFaultWhereWrong}
use Rattle.linear_faults.specs.Holding.{Holds, CausesHold}

-- ---- a fault exactly where the run is wrong

from_tells : (functions : List (Named FunctionData)) (n : ℕ) (s : State) → is_some (fault_from functions n s) ≡ is_wrong (shows (next functions) printed n s).shown
from_tells functions zero s = refl
from_tells functions (suc n) s = by_next (from_tells functions n) (next functions s)
  where
    by_next : ((t : State) → is_some (fault_from functions n t) ≡ is_wrong (shows (next functions) printed n t).shown)
        → (o : Next State) → is_some (found_by o (fault_at functions s) (fault_from functions n)) ≡ is_wrong (showing o (shows (next functions) printed n) (printed s)).shown
    by_next later (Goes t) = later t
    by_next later (Ends result) = refl
    by_next later Fails = refl

pub fault_where_wrong : HasFaultWhereWrong
fault_where_wrong p limit = from_tells p.functions limit _

-- ---- causes hold

-- whether a step has an answer
abbrev answered : Next State → Bool
answered (Goes t) = true
answered (Ends result) = true
answered Fails = false

goes_on : {A : Type 0} (t : State) → Goes t ≡ Fails → A
goes_on t e = absurd (false≢true (sym (ap answered e)))

ended : {A : Type 0} (n : Next State) (w : ℕ) → n ≡ Ends w → n ≡ Fails → A
ended n w is e = absurd (false≢true (sym (ap answered e) ∙ ap answered is))

-- an instruction that goes wrong has no data to go on with
none_after : (s : State) (place : ℕ) (o : Option Data) → goes_to s place o ≡ Fails → o ≡ None
none_after s place None e = refl
none_after s place (Some d) e = goes_on _ e

some_none : {A B : Type 0} (x : A) → Some x ≡ None → B
some_none x e = absurd (false≢true (sym (ap is_some e)))

not_given : (target : ℕ) (d : Data) (o : Option ℕ) → given target d o ≡ None → o ≡ None
not_given target d None e = refl
not_given target d (Some w) e = some_none _ e

not_mapped : {A B : Type 0} (f : A → B) (o : Option A) → option_map f o ≡ None → o ≡ None
not_mapped f None e = refl
not_mapped f (Some x) e = some_none _ e

module _ (functions : List (Named FunctionData)) (s : State) where
  abbrev d : Data
  d = s.here

  one_holds : (op : Op) (r : ℕ) (x : Option ℕ) → value_at (InRegister r) d ≡ x → option_and_then (machine_table op) (option_map (λ w. w ∷ []) x) ≡ None → Holds functions s (cause_of_one op r x)
  one_holds op r None is e = is
  one_holds op r (Some x) is e = e

  two_holds : (op : Op) (r q : ℕ) (x y : Option ℕ) → value_at (InRegister r) d ≡ x → value_at (InRegister q) d ≡ y → option_and_then (machine_table op) (pair_of x y) ≡ None
      → Holds functions s (cause_of_two op r q x y)
  two_holds op r q None y is so e = is
  two_holds op r q (Some x) None is so e = so
  two_holds op r q (Some x) (Some y) is so e = e

  operator_holds : (op : Op) (names : Arguments) → option_and_then (machine_table op) (words_of names d) ≡ None → Holds functions s (cause_of_operator op names d)
  operator_holds op (A.One r) e = one_holds op r (value_at (InRegister r) d) refl e
  operator_holds op (A.Two r q) e = two_holds op r q (value_at (InRegister r) d) (value_at (InRegister q) d) refl refl e

  load_holds : (global r : ℕ) (x : Option ℕ) → value_at (InRegister r) d ≡ x → option_and_then (word_in (slice_get d.globals global)) x ≡ None → Holds functions s (cause_of_load global r x)
  load_holds global r None is e = is
  load_holds global r (Some i) is e = e

  -- a cell is not there to be written exactly where it is not there to be read
  not_changed : (global i w : ℕ) (cells : Option (List ℕ)) → changed d global i w cells ≡ None → word_in cells i ≡ None
  not_changed global i w None e = refl
  not_changed global i w (Some cells) e = by_test (nat_lt i (length cells)) refl (record d { globals = slice_set d.globals global (slice_set cells i w) }) e
    where
      by_test : (b : Bool) → ltb i (length cells) ≡ b → (changed : Data) → cond b (Some changed) None ≡ None → slice_get cells i ≡ None
      by_test true is changed e = some_none _ e
      by_test false is changed e = slice_get_past cells i (ltb-false i (length cells) is)

  store_holds : (global r q : ℕ) (x y : Option ℕ) → value_at (InRegister r) d ≡ x → value_at (InRegister q) d ≡ y → stored d global x y ≡ None → Holds functions s (cause_of_store global r q x y)
  store_holds global r q None y is so e = is
  store_holds global r q (Some i) None is so e = so
  store_holds global r q (Some i) (Some w) is so e = not_changed global i w (slice_get d.globals global) e

  act_holds : (act : Act) → does act d ≡ None → Holds functions s (cause_of_act act d)
  act_holds (Constant target word) e = some_none _ e
  act_holds (Operate op target names) e = operator_holds op names (not_given target d _ e)
  act_holds (Load target global index) e = load_holds global index (value_at (InRegister index) d) refl (not_given target d _ e)
  act_holds (Store global index source) e = store_holds global index source (value_at (InRegister index) d) (value_at (InRegister source) d) refl refl e
  act_holds (Put source target) e = not_mapped (printing target d) (value_at (InRegister source) d) e

  gives_back : {A : Type 0} (callers : List Frame) (w : ℕ) → comes_back callers d (Some (Some w)) ≡ Fails → A
  gives_back [] w e = ended (comes_back [] d (Some (Some w))) w refl e
  gives_back (f ∷ callers) w e = goes_on _ e

  return_holds : (r : ℕ) (x : Option ℕ) → value_at (InRegister r) d ≡ x → (callers : List Frame) → comes_back callers d (returned (Some r) d) ≡ Fails → Holds functions s (cause_of_given r x)
  return_holds r None is callers e = is
  return_holds r (Some w) is callers e =
      let given : returned (Some r) d ≡ Some (Some w) = search rules in
      gives_back callers w (ap (comes_back callers d) (sym given) ∙ e)

  nothing_holds : (callers : List Frame) → s.callers ≡ callers → comes_back callers d (Some None) ≡ Fails → s.callers ≡ []
  nothing_holds [] is e = is
  nothing_holds (f ∷ callers) is e = goes_on _ e

  call_holds : (number : ℕ) (values : List (Option ℕ)) (count : ℕ) (caller : Frame) (f : Option (Named FunctionData)) → length values ≡ count → slice_get functions number ≡ f
      → calls s d number values caller (option_map callee_of f) ≡ Fails → Holds functions s (cause_of_call number count f)
  call_holds number values count caller None many is e = is
  call_holds number values count caller (Some f) many is e =
      let begins = begun s d number (callee_of f) values caller in
      (f, is, λ same. goes_on begins (subst (λ b. cond b (Goes begins) Fails ≡ Fails) (eq-eqb (length values) (length f.function.parameters) (many ∙ sym same)) e))

  module _ (f : Named FunctionData) (there : slice_get functions s.function ≡ Some f) where
    jump_holds : (label : ℕ) (to : Option ℕ) → place_of label f.function.code ≡ to → jumps s to ≡ Fails → Holds functions s (cause_of_asked label 0 (Some 0))
    jump_holds label None is e = (f, there, is)
    jump_holds label (Some to) is e = goes_on _ e

    taken_holds : (label : ℕ) (answer : Bool) → branches s (place_of label f.function.code) (Some answer) ≡ Fails → Holds functions s (cause_of_asked label 0 (Some 0))
    taken_holds label true e = jump_holds label _ refl e
    taken_holds label false e = goes_on _ e

    asked_holds : (label r : ℕ) (test : List ℕ → Bool) (x : Option ℕ) → value_at (InRegister r) d ≡ x
        → branches s (place_of label f.function.code) (option_map test (option_map (λ w. w ∷ []) x)) ≡ Fails → Holds functions s (cause_of_asked label r x)
    asked_holds label r test None is e = is
    asked_holds label r test (Some x) is e = taken_holds label (test (x ∷ [])) e

    both_holds : (label r q : ℕ) (test : List ℕ → Bool) (x y : Option ℕ) → value_at (InRegister r) d ≡ x → value_at (InRegister q) d ≡ y
        → branches s (place_of label f.function.code) (option_map test (pair_of x y)) ≡ Fails → Holds functions s (cause_of_both label r q x y)
    both_holds label r q test None y is so e = is
    both_holds label r q test (Some x) None is so e = so
    both_holds label r q test (Some x) (Some y) is so e = taken_holds label (test (x ∷ y ∷ [])) e

    branch_holds : (label : ℕ) (test : List ℕ → Bool) (names : Arguments) → branches s (place_of label f.function.code) (option_map test (words_of names d)) ≡ Fails
        → Holds functions s (cause_of_branch label names d)
    branch_holds label test (A.One r) e = asked_holds label r test (value_at (InRegister r) d) refl e
    branch_holds label test (A.Two r q) e = both_holds label r q test (value_at (InRegister r) d) (value_at (InRegister q) d) refl refl e

    at_holds : (i : Option Instruction) → slice_get f.function.code s.place ≡ i → instruction_step functions f.function.code s i ≡ Fails → Holds functions s (cause_at functions d i)
    at_holds None is e = (f, there, is)
    at_holds (Some (Do act)) is e = act_holds act (none_after s (s.place + 1) (does act d) e)
    at_holds (Some (Copy step)) is e = goes_on _ e
    at_holds (Some (Call number arguments target)) is e =
        call_holds number (values_of arguments d) (length arguments) (waiting s d target (s.place + 1) []) (slice_get functions number) (length-map arguments _) refl e
    at_holds (Some (Branch test label)) is e = branch_holds label _ test.arguments e
    at_holds (Some (Return None)) is e = nothing_holds s.callers refl e
    at_holds (Some (Return (Some r))) is e = return_holds r (value_at (InRegister r) d) refl s.callers e
    at_holds (Some (Label label)) is e = goes_on _ e
    at_holds (Some (Goto label)) is e = jump_holds label (place_of label f.function.code) refl e

  in_holds : (f : Option (Named FunctionData)) → slice_get functions s.function ≡ f → function_step functions s f ≡ Fails → Holds functions s (cause_in functions s f)
  in_holds None is e = is
  in_holds (Some f) is e = at_holds f is (slice_get f.function.code s.place) refl e

pub causes_hold_there : CausesHold
causes_hold_there functions s e = in_holds functions s (slice_get functions s.function) refl e
