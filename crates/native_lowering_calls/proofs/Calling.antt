-- A call: arguments pass, the way back is noted, and the function called begins.
use Rattle.std.proofs.Common.{◌≡◌, ℕ, suc, ◌+◌, ◌≤◌, List, [], ◌∷◌, length, drop, Option, Some, None, refl, sym, ap, subst, ◌∙◌, arith, inr, length-append, length-drop}
use Rattle.std.specs.Prelude.{slice_get}
use Rattle.std.specs.Option.{option_map}
use Rattle.std.proofs.lemmas.List.{length-map}
use Rattle.lang_base.specs.declared.program.Named.{Named}
use Rattle.lang_base.specs.declared.program.Program.{Program}
use Rattle.locations.specs.declared.location.Location.{Location}
use Rattle.machine.specs.Calls.{values_of, waiting, begun}
use Rattle.machine.specs.Data.{value_at}
use Rattle.machine.specs.Fits.{CallFits}
use Rattle.machine.specs.Frames.{State, Frame as Caller}
use Rattle.linear_language.specs.declared.instruction.Instruction.TheVariants as l
use Rattle.linear_language.specs.Function.{FunctionData, IsFunction}
use Rattle.linear_language.specs.Meaning.{callee_of}
use Rattle.x86_syntax.specs.declared.instruction.Instruction.TheVariants.{Call}
use Rattle.x86_state.specs.declared.cell.Cell.{Cell}
use Rattle.x86_state.specs.declared.cell.Cell.TheVariants.{Back}
use Rattle.x86_state.specs.declared.cell.Spot.{Spot}
use Rattle.x86_state.specs.State.{State as Native, Goes}
use Rattle.x86.specs.Calling.{below, calls}
use Rattle.native_lowering_definition.specs.Blocks.{arity_of}
use Rattle.native_lowering_definition.specs.Frames.{Frame, frame_of}
use Rattle.native_lowering_definition.specs.Locations.{passing}
use Rattle.native_lowering_definition.specs.Lowering.{around_of, lowered, code_of}
use Rattle.native_lowering_definition.specs.Moving.{keeps_each, fetches_each, passes}
use Rattle.native_lowering_relation.specs.Related.{Related}
use Rattle.native_lowering_relation.specs.Standing.{Held, Holds, laid, put_back}
use Rattle.native_lowering_relation.specs.Waiting.{Wait, GoesOnAt}
use Rattle.native_lowering_relation.proofs.Kept.{SameOr}
use Rattle.native_lowering_walks.specs.Walks.{then as onward, steps, walks}
use Rattle.native_lowering_walks.proofs.Walking.{walks_on}
use Rattle.native_lowering_runs.specs.Reaching.{Reaches}
use Rattle.native_lowering_runs.proofs.Blocks.{walks_then, below_then, lowered_function, lowered_there}
use Rattle.native_lowering_runs.proofs.Saved.{callers_wait}
use Rattle.native_lowering_passing.specs.Moved.{with_frame, words_kept, held_kept, words_fetched}
use Rattle.native_lowering_passing.proofs.Fetching.{fetches_each_goes}
use Rattle.native_lowering_passing.proofs.Keeping.{keeps_each_goes}
use Rattle.native_lowering_calls.specs.Given.{AgreeFrom, Given}
use Rattle.native_lowering_calls.proofs.Blocks.{calling, calling_stands}
use Rattle.native_lowering_calls.proofs.Entering.{enters}
use Rattle.native_lowering_calls.proofs.Lists.{all_drop}
use Rattle.native_lowering_calls.proofs.Straight.{steps_then, below_passes}
use Rattle.native_lowering_calls.proofs.Fetched.{fetched_low, fetched_holds, fetched_given}
use Rattle.native_lowering_calls.proofs.Kept.{kept_low, kept_saved, kept_holds, kept_given}
use Rattle.native_lowering_calls.proofs.Lost.{holds_lost, outs_enough, map_drop}

module _ (p : Program FunctionData) (s : State) (t : Native) (related : Related p s t) (callee : ℕ) (arguments : List Location) (target : Option Location) (g : Named FunctionData) where
  abbrev f : FunctionData
  f = related.named.function

  abbrev frame : Frame
  frame = frame_of f

  -- the registers and the frame once arguments passed
  abbrev words1 : List ℕ
  words1 = words_kept (drop 4 arguments) t.registers related.held

  abbrev held1 : Held
  held1 = held_kept 0 (drop 4 arguments) t.registers related.held

  abbrev words2 : List ℕ
  words2 = words_fetched passing arguments words1 held1

  abbrev At : ℕ → List ℕ → Held → Native
  At = with_frame t related.back related.under

  abbrev here : ℕ
  here = t.place + length (passes frame arguments)

  abbrev to : Spot
  to = below (At here words2 held1)

  abbrev cells : List Cell
  cells = laid held1 related.back related.under

  -- the state where the function called begins
  abbrev called : Native
  called = record t { function = callee; place = 0; registers = words2; flags = None; stack = Back (Some to) ∷ cells }

  abbrev caller : Caller
  caller = waiting s s.here target (s.place + 1) []

  module _ (at : slice_get f.code s.place ≡ Some (l.Call callee arguments target)) (fits : CallFits f.slots callee arguments target) (there : slice_get p.functions callee ≡ Some g)
      (count : length arguments ≡ length g.function.parameters) where
    holds1 : Holds f s.here.registers s.here.slots words1 held1
    holds1 = kept_holds f s.here.registers s.here.slots (drop 4 arguments) 0 t.registers t.registers related.held related.held related.holds

    holds2 : Holds f s.here.registers s.here.slots words2 held1
    holds2 = fetched_holds f s.here held1 arguments words1 holds1

    enough : 0 + length (drop 4 arguments) ≤ frame.outs
    enough = let most = outs_enough f.code s.place (l.Call callee arguments target) at in omega (arith, most, length-drop 4 arguments)

    arity : arity_of (around_of p f) callee ≡ Some (length g.function.parameters)
    arity = ap (option_map (λ (h : Named FunctionData). length h.function.parameters)) there

    -- arguments pass
    passes_goes : walks (lowered p).functions None (code_of p f) (passes frame arguments) (At t.place t.registers related.held) ≡ Goes (At here words2 held1)
    passes_goes =
        let first = keeps_each frame 0 (drop 4 arguments) in
        let second = fetches_each frame passing arguments in
        let middle = t.place + length first in
        let far : middle + length second ≡ here = rw length-append (omega arith) in
        walks_then (lowered p).functions None (code_of p f) first second (At t.place t.registers related.held) (At middle words1 held1) (Goes (At (middle + length second) words2 held1))
        (keeps_each_goes (lowered p).functions None (code_of p f) frame t related.back related.under 0 (drop 4 arguments) t.place t.registers related.held related.holds.full related.holds.thirteen enough
        (all_drop _ 4 arguments fits.arguments))
        (fetches_each_goes (lowered p).functions None (code_of p f) frame t related.back related.under passing arguments middle words1 held1 holds1.full fits.arguments)
        ∙ ap (λ k. Goes (At k words2 held1)) far

    -- and the function is called
    calls_goes : walks (lowered p).functions None (code_of p f) (calling frame callee arguments) t ≡ Goes called
    calls_goes =
        ap (λ (cs : List Cell). walks (lowered p).functions None (code_of p f) (calling frame callee arguments) (record t { stack = cs })) related.stands
        ∙ walks_then (lowered p).functions None (code_of p f) (passes frame arguments) (Call callee ∷ []) (At t.place t.registers related.held) (At here words2 held1) (Goes called) passes_goes
        (ap (λ o. onward (calls callee o (At here words2 held1)) (walks (lowered p).functions None (code_of p f) [])) (lowered_there p g callee there))

    calls_steps : steps (lowered p).functions None (length (calling frame callee arguments)) t ≡ Goes called
    calls_steps = walks_on (lowered p).functions None (lowered_function p related.named) (calling frame callee arguments) t
        (lowered_there p related.named t.function (ap (slice_get p.functions) related.function ∙ related.there))
        (calling_stands p f s.place callee arguments target (length g.function.parameters) t.place arity count at related.place)
        (below_then (passes frame arguments) (Call callee ∷ []) (below_passes frame arguments) tt)
        ∙ calls_goes

    -- ---- the caller waits

    same : SameOr frame.saved t.registers words2
    same = λ q low high. inr (fetched_low arguments words1 held1 q high ∙ kept_low (drop 4 arguments) t.registers related.held q high)

    goes_on : GoesOnAt p f caller to
    goes_on = record {
      before = s.place;
      callee = callee;
      arguments = arguments;
      calls = at;
      takes = arity ∙ ap (λ n. Some n) (sym count);
      next = refl;
      moves = refl;
      function = related.function;
      place = omega (arith, related.place);
    }

    waits : Wait p (caller ∷ s.callers) (Some to) words2 cells
    waits = record {
      to = to;
      named = related.named;
      held = held1;
      further = related.back;
      rest = related.under;
      goes_back = refl;
      there = related.there;
      goes_on = goes_on;
      holds = holds_lost f s.here.registers s.here.slots words2 held1 holds2;
      stands = refl;
      under = subst (λ ws. Wait p s.callers related.back (put_back frame.saved ws words2) related.under) (sym (kept_saved (drop 4 arguments) 0 t.registers related.held))
          (callers_wait p s.callers related.back frame.saved related.held.saved t.registers words2 related.under
          related.holds.thirteen holds2.thirteen related.holds.full.saved same related.callers);
    }

    given : Given (values_of arguments s.here) words2 cells
    given = record {
      first = fetched_given f s.here held1 arguments words1 holds1;
      others = subst (λ vs. AgreeFrom 0 vs cells) (map_drop (λ (x : Location). value_at x s.here) 4 arguments)
          (kept_given f s.here related.back related.under (drop 4 arguments) 0 t.registers related.held related.holds enough);
    }

    pub call_reaches : IsFunction g.function → Reaches p None (begun s s.here callee (callee_of g) (values_of arguments s.here) caller) t
    call_reaches range =
        let begins = enters p g called (Some to) cells (caller ∷ s.callers) (values_of arguments s.here) s.here range (record {
          there = there;
          place = refl;
          stands = refl;
          thirteen = holds2.thirteen;
          globals = related.globals;
          output = related.output;
          count = length-map arguments (λ (x : Location). value_at x s.here) ∙ count;
          given = given;
          waiting = waits;
        }) in
        let n = length (calling frame callee arguments) in
        record {
          more = n + begins.more;
          to = begins.to;
          go = steps_then (lowered p).functions None n (suc begins.more) (suc (n + begins.more)) t called (Goes begins.to) (omega arith) calls_steps begins.go;
          related = begins.related;
        }
