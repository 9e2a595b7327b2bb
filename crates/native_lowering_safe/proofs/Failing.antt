-- Where each register is defined and Linear goes wrong, the run of native code is over in the block.
use Rattle.std.proofs.Common.{◌≡◌, ℕ, ◌+◌, ◌<◌, ◌^◌, Bool, true, false, List, [], ◌∷◌, length, Option, Some, None, refl, sym, ap, ◌∙◌}
use Rattle.std.specs.Prelude.{slice_get, slice_index, slice_set, nat_lt, if◌then◌else◌, option_and_then, ◌==◌}
use Rattle.std.specs.Option.{option_map}
use Rattle.std.proofs.lemmas.List.{length-map}
use Rattle.ints.specs.Codes.{argument_count_of}
use Rattle.ints.specs.CondTable.{cond_table}
use Rattle.ints.specs.Conditions.{cond_argument_count_of}
use Rattle.ints.specs.MachineTable.{machine_table}
use Rattle.ints.specs.declared.operators.Op.{Op}
use Rattle.lang_base.specs.Machine.{Goes, Fails}
use Rattle.lang_base.specs.declared.program.Program.{Program}
use Rattle.locations.specs.declared.location.Location.{Location}
use Rattle.locations.specs.declared.location.Location.TheVariants.{InRegister}
use Rattle.machine.specs.Acts.{does, given, words_of, pair_of, word_in, changed, stored, printing}
use Rattle.machine.specs.Calls.{calls, values_of, waiting}
use Rattle.machine.specs.Data.{Data, value_at}
use Rattle.machine.specs.Fits.{ActFits, ArgumentsFit, ValueFits}
use Rattle.machine.specs.Frames.{State, Frame as Caller, goes_to, returned, comes_back}
use Rattle.machine.specs.declared.act.Act.{Act}
use Rattle.machine.specs.declared.act.Act.TheVariants.{Constant, Operate, Load, Store, Put}
use Rattle.machine.specs.declared.arguments.Arguments.{Arguments}
use Rattle.machine.specs.declared.arguments.Arguments.TheVariants.{One, Two}
use Rattle.machine.specs.declared.test.Test.{Test}
use Rattle.linear_language.specs.Labels.{place_of}
use Rattle.linear_language.specs.Meaning.{next, instruction_step, function_step, callee_of, jumps, branches}
use Rattle.linear_language.specs.declared.instruction.Instruction.{Instruction}
use Rattle.linear_language.specs.declared.instruction.Instruction.TheVariants as l
use Rattle.linear_language.specs.Function.{FunctionData, InstructionFits}
use Rattle.x86_state.specs.State.{State as Native}
use Rattle.native_lowering_definition.specs.Lowering.{lowered}
use Rattle.native_lowering_ranges.specs.InRange.{InRange}
use Rattle.native_lowering_relation.specs.Related.{Related}
use Rattle.native_lowering_runs.specs.Reaching.{AreFunctions}
use Rattle.native_lowering_runs.proofs.Lists.{all_at}
use Rattle.native_lowering_safe_stops.specs.Halting.{Halts, AreDefined}
use Rattle.native_lowering_safe_stops.proofs.Ending.{end_stops, return_halts}
use Rattle.native_lowering_safe_stops.proofs.Jumping.{asked_words, branch_stops, call_stops, goto_stops}
use Rattle.native_lowering_safe_stops.proofs.Reaching.{load_stops, store_stops}
use Rattle.native_lowering_safe.proofs.Operating.{some_none, one_answers, two_stops}

not_fails : (P : Type 0) (s : State) → Goes s ≡ Fails → P
not_fails P s e = absurd (no e)
  where
    no : Goes s ≡ Fails → ⊥
    no e = cc

-- what is given back where a register is named
abbrev gives : Option ℕ → Option (Option ℕ)
gives None = None
gives (Some w) = Some (Some w)

none_given : (target : ℕ) (d : Data) (o : Option ℕ) → given target d o ≡ None → o ≡ None
none_given target d None e = refl
none_given target d (Some w) e = some_none _ _ e

none_goes : (s : State) (place : ℕ) (o : Option Data) → goes_to s place o ≡ Fails → o ≡ None
none_goes s place None e = refl
none_goes s place (Some d) e = not_fails _ _ e

module _ (p : Program FunctionData) (range : AreFunctions p) (s : State) (t : Native) (related : Related p s t) (defined : AreDefined s.here t.registers)
    (words : InRange p.globals s) (count : length s.here.globals ≡ length p.globals) where
  abbrev code : List Instruction
  code = related.named.function.code

  abbrev At : Instruction → Type 0
  At i = slice_get code s.place ≡ Some i

  abbrev Over : Type 0
  Over = Halts (lowered p).functions t

  abbrev word : ℕ → ℕ
  word r = slice_index t.registers r

  -- an instruction of the function is in range
  fits : (i : Instruction) → At i → InstructionFits related.named.function.slots i
  fits i at = all_at (InstructionFits related.named.function.slots) code s.place i (range s.function related.named related.there).each at

  small : (r : ℕ) → r < 8 → word r < 2 ^ 32
  small r near = words.here.registers r (word r) (defined r near)

  -- the words of arguments are there
  arguments_are : (n : ℕ) (arguments : Arguments) → ArgumentsFit n arguments → words_of arguments s.here ≡ Some (asked_words p s t related defined arguments)
  arguments_are n (One r) fit = ap (option_map (λ x. x ∷ [])) (defined r fit.1)
  arguments_are n (Two a b) fit = λ i. pair_of (defined a fit.1 i) (defined b fit.2 i)

  -- ---- plain instructions

  operates : (op : Op) (target : ℕ) (arguments : Arguments) → At (l.Do (Operate op target arguments)) → ArgumentsFit (argument_count_of op) arguments
      → machine_table op (asked_words p s t related defined arguments) ≡ None → Over
  operates op target (One a) at fit e = one_answers Over op (word a) fit.0 e
  operates op target (Two a b) at fit e = two_stops p s t related defined target a b fit.1 fit.2 (small a fit.1) (small b fit.2) op at fit.0 e

  not_changed : (global i w : ℕ) (cells : List ℕ) → changed s.here global i w (Some cells) ≡ None → nat_lt i (length cells) ≡ false
  not_changed global i w cells e = by (nat_lt i (length cells)) e
    where
      by : (b : Bool) → (if b then Some (record s.here { globals = slice_set s.here.globals global (slice_set cells i w) }) else None) ≡ None → b ≡ false
      by true e = some_none _ _ e
      by false e = refl

  acts : (act : Act) → At (l.Do act) → ActFits act → does act s.here ≡ None → Over
  acts (Constant target w) at fit e = some_none Over _ e
  acts (Operate op target arguments) at fit e =
      operates op target arguments at fit.1
      (sym (ap (option_and_then (machine_table op)) (arguments_are (argument_count_of op) arguments fit.1)) ∙ none_given target s.here (option_and_then (machine_table op) (words_of arguments s.here)) e)
  acts (Load target global index) at fit e =
      let o = option_and_then (word_in (slice_get s.here.globals global)) (value_at (InRegister index) s.here) in
      load_stops p s t related defined words.here.declared_so count target global index at fit.2
      (sym (ap (option_and_then (word_in (slice_get s.here.globals global))) (defined index fit.2)) ∙ none_given target s.here o e)
  acts (Store global index source) at fit e =
      store_stops p s t related defined words.here.declared_so count global index source at fit.1
      (λ cells there. not_changed global (word index) (word source) cells
      (ap (changed s.here global (word index) (word source)) (sym there) ∙ sym (λ i. stored s.here global (defined index fit.1 i) (defined source fit.2 i)) ∙ e))
  acts (Put source target) at fit e = some_none Over _ (sym (ap (option_map (printing target s.here)) (defined source fit.0)) ∙ e)

  -- ---- jumps, calls, returns

  missing_label : (o : Option ℕ) → jumps s o ≡ Fails → o ≡ None
  missing_label None e = refl
  missing_label (Some m) e = not_fails _ _ e

  branched : (test : Test) (label : ℕ) (b : Bool) → At (l.Branch test label) → ArgumentsFit (cond_argument_count_of test.condition) test.arguments → cond_table test.condition (asked_words p s t related defined test.arguments) ≡ b
      → branches s (place_of label code) (Some b) ≡ Fails → Over
  branched test label true at fit held e = branch_stops p s t related defined test.condition test.arguments label at (missing_label (place_of label code) e) fit held
  branched test label false at fit held e = not_fails Over _ e

  other_count : (arguments : List Location) (n : ℕ) (x : State) (b : Bool) → (length (values_of arguments s.here) == n) ≡ b → (if b then Goes x else Fails) ≡ Fails → (length arguments == n) ≡ false
  other_count arguments n x true same e = not_fails _ x e
  other_count arguments n x false same e = ap (λ k. k == n) (sym (length-map arguments (λ (k : Location). value_at k s.here))) ∙ same

  called : (callee : ℕ) (arguments : List Location) (target : Option Location) → At (l.Call callee arguments target)
      → calls s s.here callee (values_of arguments s.here) (waiting s s.here target (s.place + 1) []) (option_map callee_of (slice_get p.functions callee)) ≡ Fails → Over
  called callee arguments target at e =
      call_stops p s t related callee arguments target (slice_get p.functions callee) at refl
      (λ g there. other_count arguments (length g.function.parameters) _ (length (values_of arguments s.here) == length g.function.parameters) refl
      (ap (λ o. calls s s.here callee (values_of arguments s.here) (waiting s s.here target (s.place + 1) []) (option_map callee_of o)) (sym there) ∙ e))

  gives_some : (value : Option ℕ) → ValueFits value → (v : Option ℕ) × (returned value s.here ≡ Some v)
  gives_some None fit = (None, refl)
  gives_some (Some r) fit = (Some (word r), ap gives (defined r fit))

  came_back : (value : Option ℕ) → At (l.Return value) → (cs : List Caller) (v : Option ℕ) → s.callers ≡ cs → comes_back cs s.here (Some v) ≡ Fails → Over
  came_back value at [] v alone e = return_halts p s t related value at (fits (l.Return value) at) alone
  came_back value at (c ∷ cs) v alone e = not_fails Over _ e

  -- ---- each instruction

  at_fails : (o : Option Instruction) → slice_get code s.place ≡ o → instruction_step p.functions code s o ≡ Fails → Over
  at_fails None at e = end_stops p s t related at
  at_fails (Some (l.Do act)) at e = acts act at (fits (l.Do act) at) (none_goes s (s.place + 1) (does act s.here) e)
  at_fails (Some (l.Copy step)) at e = not_fails Over _ e
  at_fails (Some (l.Call callee arguments target)) at e = called callee arguments target at e
  at_fails (Some (l.Branch test label)) at e =
      let fit = (fits (l.Branch test label) at).0 in
      branched test label (cond_table test.condition (asked_words p s t related defined test.arguments)) at fit refl
      (sym (ap (λ o. branches s (place_of label code) (option_map (cond_table test.condition) o)) (arguments_are (cond_argument_count_of test.condition) test.arguments fit)) ∙ e)
  at_fails (Some (l.Return value)) at e =
      let some = gives_some value (fits (l.Return value) at) in
      came_back value at s.callers some.0 refl (sym (ap (comes_back s.callers s.here) some.1) ∙ e)
  at_fails (Some (l.Label label)) at e = not_fails Over _ e
  at_fails (Some (l.Goto label)) at e = goto_stops p s t related label at (missing_label (place_of label code) e)

  pub fails : next p.functions s ≡ Fails → Over
  fails e = at_fails (slice_get code s.place) refl (sym (ap (function_step p.functions s) related.there) ∙ e)
