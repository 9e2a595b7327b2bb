-- Where a pass matches each node wherever its facts hold, both programs go from state to state alike.
use Rattle.std.proofs.Common.{◌≡◌, ◌≢◌, ℕ, zero, suc, List, [], ◌∷◌, length, Option, Some, None, Bool, true, false, cond, eqb, refl, sym, ap, ◌∙◌, subst}
use Rattle.std.specs.Prelude.{slice_get, ◌==◌, replicate}
use Rattle.std.specs.List.{AllByRecursion}
use Rattle.std.proofs.lemmas.List.{length-replicate}
use Rattle.lang_base.specs.Machine.{Next, Goes, Ends, Fails, showing, shows, Leads, Matches}
use Rattle.lang_base.specs.declared.program.Named.{Named}
use Rattle.lang_base.specs.Soundness.{AcceptedInTurn}
use Rattle.lang_base.specs.declared.shown.Shown.TheVariants as shown
use Rattle.lang_base.proofs.Simulation.{leads-step}
use Rattle.rtl_language.specs.Data.{Data}
use Rattle.rtl_language.specs.Acts.{does, holds}
use Rattle.rtl_language.specs.declared.instruction.Instruction.{Instruction}
use Rattle.rtl_language.specs.declared.instruction.Instruction.TheVariants.{Do, Call, Branch, Return}
use Rattle.rtl_language.specs.Function.{FunctionData}
use Rattle.rtl_language.specs.Frames.{Frame, State, printed, goes_to, restored, resumed, comes_back, with_arguments}
use Rattle.rtl_language.specs.Meaning.{branches, waiting, begun, calls, instruction_step, function_step, next}
use Rattle.rtl_passes.specs.Shape.{HasSameShape}
use Rattle.rtl_passes.specs.Effects.{Effect, Onward, Calls, Back, Faults, onward, chooses, effect_of, HoldsAfter}
use Rattle.rtl_passes.specs.Facts.{IsMatched, IsStepwise, Pair, WaitsWith, StandsWith, AreAlike}
use Rattle.rtl_passes.proofs.Counts.{count-with_result, GoesCounted, effect_counts, count-with_arguments}

-- what follows a state by what its instruction does
abbrev follows : List (Named FunctionData) → State → Effect → Next State
follows functions s (Onward place d) = Goes (record s { place = place; here = d })
follows functions s (Calls function arguments target successor) = calls s function arguments (waiting s target successor) (slice_get functions function)
follows functions s (Back value) = comes_back s.callers s.here value
follows functions s Faults = Fails

onward_follows : (functions : List (Named FunctionData)) (s : State) (place : ℕ) (o : Option Data) → goes_to s place o ≡ follows functions s (onward place o)
onward_follows functions s place None = refl
onward_follows functions s place (Some d) = refl

chooses_follows : (functions : List (Named FunctionData)) (s : State) (taken other : ℕ) (o : Option Bool) → branches s taken other o ≡ follows functions s (chooses taken other s.here o)
chooses_follows functions s taken other None = refl
chooses_follows functions s taken other (Some answer) = refl

step_follows : (functions : List (Named FunctionData)) (s : State) (i : Instruction) → instruction_step functions s (Some i) ≡ follows functions s (effect_of i s.here)
step_follows functions s (Do act successor) = onward_follows functions s successor (does act s.here)
step_follows functions s (Call function arguments target successor) = refl
step_follows functions s (Branch test taken other) = chooses_follows functions s taken other (holds test s.here)
step_follows functions s (Return value) = refl

-- a called function begins alike
begun_same : (s : State) (number : ℕ) (f g : FunctionData) (arguments : List (Option ℕ)) (caller : Frame) → HasSameShape f g → begun s number g arguments caller ≡ begun s number f arguments caller
begun_same s number f g arguments caller shape = λ i. record {
  function = number;
  place = shape.entry i;
  here = record s.here { registers = with_arguments (shape.parameters i) arguments (replicate (shape.registers i) None) };
  callers = caller ∷ s.callers;
}

module _ {C : Type 0} (Accepts : FunctionData → FunctionData → C → Type 0) (Holds : C → ℕ → Data → Type 0) (stepwise : IsStepwise Accepts Holds) where
  -- the functions of a number, accepted
  pub pair_of : (fs gs : List (Named FunctionData)) → AcceptedInTurn Accepts fs gs → (k : ℕ) (f : Named FunctionData) → slice_get fs k ≡ Some f → (p : Pair Accepts fs gs k) × (p.source ≡ f)
  pair_of [] gs accepted k f e = cc
  pair_of (f' ∷ fs) [] accepted k f e = absurd accepted
  pair_of (f' ∷ fs) (g ∷ gs) accepted zero f e =
      let same : f' ≡ f = cc in
      let one = accepted.0.1 in
      (record { source = f'; target = g; certificate = one.0; is_source = refl; is_target = refl; accepted = one.1 }, same)
  pair_of (f' ∷ fs) (g ∷ gs) accepted (suc k) f e =
      let p = pair_of fs gs accepted.1 k f e in
      let q = p.0 in
      (record { source = q.source; target = q.target; certificate = q.certificate; is_source = q.is_source; is_target = q.is_target; accepted = q.accepted }, p.1)

  module _ (sources targets : List (Named FunctionData)) (accepted : AcceptedInTurn Accepts sources targets) where
    abbrev Standing : State → Type 0
    Standing s = StandsWith Accepts Holds sources targets s

    abbrev Waiting : Frame → Type 0
    Waiting f = WaitsWith Accepts Holds sources targets f

    -- both go to the same state, and the facts hold of it
    abbrev GoAlike : State → Next State → Type 0
    GoAlike s' x = (x ≡ Goes s') × Standing s'

    begins_standing : (s : State) (number : ℕ) (arguments : List (Option ℕ)) (caller : Frame) (p : Pair Accepts sources targets number) → Waiting caller → AllByRecursion Waiting s.callers → Standing (begun s number p.source.function arguments caller)
    begins_standing s number arguments caller p waits callers = record {
      pair = p;
      counted = count-with_arguments p.source.function.parameters arguments (replicate p.source.function.registers None) ∙ length-replicate p.source.function.registers None;
      holds = stepwise.entry p.source.function p.target.function p.certificate p.accepted _;
      callers = (waits, callers);
    }

    call_enters : (s : State) (number : ℕ) (arguments : List (Option ℕ)) (caller : Frame) (p : Pair Accepts sources targets number) (b : Bool) → (length arguments == length p.source.function.parameters) ≡ b → Waiting caller → AllByRecursion Waiting s.callers → (s' : State) → cond b (Goes (begun s number p.source.function arguments caller)) Fails ≡ Goes s' → GoAlike s' (calls s number arguments caller (Some p.target))
    call_enters s number arguments caller p false counted waits callers s' goes = cc (goes)
    call_enters s number arguments caller p true counted waits callers s' goes =
        let shape = stepwise.shape p.source.function p.target.function p.certificate p.accepted in
        let is : begun s number p.source.function arguments caller ≡ s' = cc in
        let begins = begun_same s number p.source.function p.target.function arguments caller shape in
        let takes : (length arguments == length p.target.function.parameters) ≡ true = ap (λ ps. eqb (length arguments) (length ps)) shape.parameters ∙ counted in (
          ap (λ b. cond b (Goes (begun s number p.target.function arguments caller)) Fails) takes ∙ ap Goes (begins ∙ is),
          subst Standing is (begins_standing s number arguments caller p waits callers),
        )

    call_goes : (s : State) (number : ℕ) (arguments : List (Option ℕ)) (caller : Frame) (o : Option (Named FunctionData)) → slice_get sources number ≡ o → Waiting caller → AllByRecursion Waiting s.callers → (s' : State) → calls s number arguments caller o ≡ Goes s' → GoAlike s' (calls s number arguments caller (slice_get targets number))
    call_goes s number arguments caller None e waits callers s' goes = cc (goes)
    call_goes s number arguments caller (Some callee) e waits callers s' goes =
        let found = pair_of sources targets accepted number callee e in
        let p = found.0 in
        let goes' : calls s number arguments caller (Some p.source) ≡ Goes s' = ap (λ f. calls s number arguments caller (Some f)) found.1 ∙ goes in
        subst (λ x. GoAlike s' (calls s number arguments caller x)) (sym p.is_target)
        (call_enters s number arguments caller p (length arguments == length p.source.function.parameters) refl waits callers s' goes')

    return_goes : (callers : List Frame) → AllByRecursion Waiting callers → (d : Data) (value : Option (Option ℕ)) (s' : State) → comes_back callers d value ≡ Goes s' → Standing s'
    return_goes callers waits d None s' goes = cc (goes)
    return_goes [] waits d (Some None) s' goes = cc (goes)
    return_goes [] waits d (Some (Some w)) s' goes = cc (goes)
    return_goes (frame ∷ callers) waits d (Some value) s' goes =
        let is : resumed value d frame callers ≡ s' = cc in
        let w = waits.0 in
        let back : Standing (resumed value d frame callers) =
        record {
          pair = w.pair;
          counted = count-with_result frame.target value (restored frame d) ∙ w.counted;
          holds = w.holds value (restored frame d) refl;
          callers = waits.1;
        } in
        subst Standing is back

    -- what an instruction does leads both to the same state
    effect_goes : (s : State) → (p : Pair Accepts sources targets s.function) → length s.here.registers ≡ p.source.function.registers → AllByRecursion Waiting s.callers → (effect : Effect) → GoesCounted s.here effect → HoldsAfter (Holds p.certificate) s.here effect → (s' : State) → follows sources s effect ≡ Goes s' → GoAlike s' (follows targets s effect)
    effect_goes s p counted callers (Onward place d) counts after s' goes =
        let is : record s { place = place; here = d } ≡ s' = cc in
        let there : Standing (record s { place = place; here = d }) = record { pair = p; counted = counts ∙ counted; holds = after; callers = callers } in
        (goes, subst Standing is there)
    effect_goes s p counted callers (Calls function arguments target successor) counts after s' goes =
        call_goes s function arguments (waiting s target successor) (slice_get sources function) refl (record { pair = p; counted = counted; holds = after }) callers s' goes
    effect_goes s p counted callers (Back value) counts after s' goes = (goes, return_goes s.callers callers s.here value s' goes)
    effect_goes s p counted callers Faults counts after s' goes = cc (goes)

    -- only a return ends
    call_never_ends : (s : State) (number : ℕ) (arguments : List (Option ℕ)) (caller : Frame) (o : Option (Named FunctionData)) (result : ℕ) → calls s number arguments caller o ≡ Ends result → ⊥
    call_never_ends s number arguments caller None result ends = cc (ends)
    call_never_ends s number arguments caller (Some callee) result ends = at (length arguments == length callee.function.parameters) ends
      where
        at : (b : Bool) → cond b (Goes (begun s number callee.function arguments caller)) Fails ≡ Ends result → ⊥
        at true e = cc (e)
        at false e = cc (e)

    effect_ends : (s : State) (effect : Effect) (result : ℕ) → follows sources s effect ≡ Ends result → follows targets s effect ≡ Ends result
    effect_ends s (Onward place d) result ends = cc (ends)
    effect_ends s (Calls function arguments target successor) result ends = absurd (call_never_ends s function arguments (waiting s target successor) (slice_get sources function) result ends)
    effect_ends s (Back value) result ends = ends
    effect_ends s Faults result ends = cc (ends)

    -- a state whose instruction does not go wrong, by what it does
    no_fault : (s : State) (effect : Effect) → follows sources s effect ≢ Fails → effect ≢ Faults
    no_fault s effect runs fault = runs (ap (follows sources s) fault)

    abbrev Matched : (s : State) → (p : Pair Accepts sources targets s.function) → Instruction → Type 0
    Matched s p i = IsMatched (Holds p.certificate) p.target.function.nodes s.place s.here (effect_of i s.here)

    source_step : (s : State) (p : Pair Accepts sources targets s.function) (i : Instruction) → slice_get p.source.function.nodes s.place ≡ Some i → next sources s ≡ follows sources s (effect_of i s.here)
    source_step s p i e = ap (function_step sources s) p.is_source ∙ ap (instruction_step sources s) e ∙ step_follows sources s i

    target_step : (s : State) (p : Pair Accepts sources targets s.function) (i : Instruction) → Matched s p i → next targets s ≡ follows targets s (effect_of i s.here)
    target_step s p i m =
        ap (function_step targets s) p.is_target
        ∙ ap (instruction_step targets s) m.stands
        ∙ step_follows targets s m.instruction
        ∙ ap (follows targets s) m.alike

    matched_node : (s : State) (st : Standing s) (i : Instruction) → slice_get st.pair.source.function.nodes s.place ≡ Some i → next sources s ≢ Fails → Matched s st.pair i
    matched_node s st i e runs =
        let p = st.pair in
        stepwise.node p.source.function p.target.function p.certificate p.accepted s.place i e s.here st.counted st.holds (no_fault s (effect_of i s.here) (λ fails. runs (source_step s p i e ∙ fails)))

    state_goes : (s : State) (st : Standing s) (o : Option Instruction) → slice_get st.pair.source.function.nodes s.place ≡ o → (s' : State) → next sources s ≡ Goes s' → GoAlike s' (next targets s)
    state_goes s st None e s' goes =
        let fails : next sources s ≡ Fails = ap (function_step sources s) st.pair.is_source ∙ ap (instruction_step sources s) e in cc
    state_goes s st (Some i) e s' goes =
        let p = st.pair in
        let m = matched_node s st i e (λ fails. cc) in
        let goes' : follows sources s (effect_of i s.here) ≡ Goes s' = sym (source_step s p i e) ∙ goes in
        let led = effect_goes s p st.counted st.callers (effect_of i s.here) (effect_counts i s.here) m.after s' goes' in
        (target_step s p i m ∙ led.0, led.1)

    state_ends : (s : State) (st : Standing s) (o : Option Instruction) → slice_get st.pair.source.function.nodes s.place ≡ o → (result : ℕ) → next sources s ≡ Ends result → next targets s ≡ Ends result
    state_ends s st None e result ends =
        let fails : next sources s ≡ Fails = ap (function_step sources s) st.pair.is_source ∙ ap (instruction_step sources s) e in cc
    state_ends s st (Some i) e result ends =
        let p = st.pair in
        let m = matched_node s st i e (λ fails. cc) in
        target_step s p i m ∙ effect_ends s (effect_of i s.here) result (sym (source_step s p i e) ∙ ends)

    abbrev Alike : State → State → Type 0
    Alike s t = AreAlike Accepts Holds sources targets s t

    goes_alike : (s s' : State) → Standing s → next sources s ≡ Goes s' → (t' : State) × Alike s' t' × Leads (next targets) printed s t'
    goes_alike s s' st goes =
        let led = state_goes s st (slice_get st.pair.source.function.nodes s.place) refl s' goes in
        (s', record { same = refl; stands = led.1 }, leads-step led.0)

    ends_alike : (s : State) → Standing s → (result : ℕ) → next sources s ≡ Ends result → (j : ℕ) × (shows (next targets) printed j s ≡ record { shown = shown.Ended result; output = printed s })
    ends_alike s st result ends =
        (1, ap (λ x. showing x (shows (next targets) printed 0) (printed s)) (state_ends s st (slice_get st.pair.source.function.nodes s.place) refl result ends))

    -- each step of the input's program is matched by a step of the output's
    pub matches : Matches (next sources) printed (next targets) printed Alike
    matches = record {
      goes = λ s s' t r goes. subst (λ x. (t' : State) × Alike s' t' × Leads (next targets) printed x t') (sym r.same) (goes_alike s s' r.stands goes);
      ends = λ s t result r ends. subst (λ x. (j : ℕ) × (shows (next targets) printed j x ≡ record { shown = shown.Ended result; output = printed s })) (sym r.same) (ends_alike s r.stands result ends);
      same = λ s t r. ap printed (sym r.same);
    }
