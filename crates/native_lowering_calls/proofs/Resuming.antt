-- The caller goes on: the result goes where the call wants it.
use Rattle.std.proofs.Common.{◌≡◌, ℕ, ◌+◌, List, ◌∷◌, ◌++◌, length, Option, Some, None, refl, sym, ap, subst, ◌∙◌, arith, length-append}
use Rattle.std.specs.Prelude.{slice_get, slice_index}
use Rattle.lang_base.specs.declared.program.Program.{Program}
use Rattle.locations.specs.declared.location.Location.{Location}
use Rattle.machine.specs.Data.{Data, all_moved}
use Rattle.machine.specs.Fits.{TargetFits}
use Rattle.machine.specs.Frames.{State, Frame as Caller, restored, with_result, resumed}
use Rattle.machine.proofs.Outputs.{output-put_at}
use Rattle.machine.proofs.Words.{put_at-globals}
use Rattle.linear_language.specs.declared.instruction.Instruction.TheVariants as l
use Rattle.linear_language.specs.Function.{FunctionData, InstructionFits}
use Rattle.x86_syntax.specs.Registers.{number_of}
use Rattle.x86_syntax.specs.declared.instruction.Instruction.TheVariants.{Call}
use Rattle.x86_syntax.specs.declared.register.Register.TheVariants.{Eax}
use Rattle.x86_state.specs.declared.cell.Cell.{Cell}
use Rattle.x86_state.specs.declared.cell.Spot.{Spot}
use Rattle.x86_state.specs.State.{State as Native, Goes}
use Rattle.native_lowering_definition.specs.Blocks.{gets}
use Rattle.native_lowering_definition.specs.Frames.{Frame, frame_of}
use Rattle.native_lowering_definition.specs.Layout.{place_in}
use Rattle.native_lowering_definition.specs.Lowering.{lowered, code_of}
use Rattle.native_lowering_definition.specs.Moving.{passes}
use Rattle.native_lowering_relation.specs.Agreeing.{Agrees}
use Rattle.native_lowering_relation.specs.Related.{Related}
use Rattle.native_lowering_relation.specs.Standing.{laid, put_back}
use Rattle.native_lowering_relation.specs.Waiting.{Wait}
use Rattle.native_lowering_relation.proofs.Knowing.{nothing_so}
use Rattle.native_lowering_walks.specs.Walks.{steps, walks}
use Rattle.native_lowering_walks.proofs.Walking.{walks_on}
use Rattle.native_lowering_runs.specs.Reaching.{AreFunctions}
use Rattle.native_lowering_runs.proofs.Blocks.{AllBelow, all_straight, lowered_function, lowered_there}
use Rattle.native_lowering_runs.proofs.Lists.{all_at}
use Rattle.native_lowering_runs.proofs.Places.{known_below, place_below}
use Rattle.native_lowering_runs.proofs.Saved.{callers_wait, written_saved, target_written}
use Rattle.native_lowering_passing.proofs.Receiving.{Received, puts_received}
use Rattle.native_lowering_calls.proofs.Blocks.{call_block, getting_stands}
use Rattle.native_lowering_calls.proofs.Receiving.{IsSaved, none}
use Rattle.native_lowering_calls.proofs.Straight.{below_puts}

-- so many steps lead to a state that stands for this one of Linear
pub record Arrives (p : Program FunctionData) (s : State) (t : Native) : Type 0 where
  pub count : ℕ
  pub to : Native
  pub go : steps (lowered p).functions None count t ≡ Goes to
  pub related : Related p s to

-- a location that is there, if there is one, and its register is saved
abbrev AllSaved : FunctionData → Option Location → Type 0
AllSaved f None = Unit {0}
AllSaved f (Some l) = IsSaved f l

below_gets : (frame : Frame) (target : Option Location) → AllBelow (gets frame target)
below_gets frame None = tt
below_gets frame (Some l) = below_puts frame l Eax

result-globals : (target : Option Location) (v : Option ℕ) (d : Data) → (with_result target v d).globals ≡ d.globals
result-globals None v d = refl
result-globals (Some l) v d = put_at-globals l v d

result-output : (target : Option Location) (v : Option ℕ) (d : Data) → (with_result target v d).output ≡ d.output
result-output None v d = refl
result-output (Some l) v d = output-put_at l v d

module _ (p : Program FunctionData) (range : AreFunctions p) (caller : Caller) (callers : List Caller) (back : Option Spot) (words : List ℕ) (cells : List Cell) (wait : Wait p (caller ∷ callers) back words cells) where
  abbrev f : FunctionData
  f = wait.named.function

  target_fits : TargetFits f.slots caller.target
  target_fits = (all_at (InstructionFits f.slots) f.code wait.goes_on.before (l.Call wait.goes_on.callee wait.goes_on.arguments caller.target) (range caller.function wait.named wait.there).each wait.goes_on.calls).target

  target_saved : (o : Option Location) → caller.target ≡ o → AllSaved f o
  target_saved None e = tt
  target_saved (Some target) e = λ r same low high.
      written_saved f r (target_written f wait.goes_on.before r (l.Call wait.goes_on.callee wait.goes_on.arguments caller.target) wait.goes_on.calls (e ∙ ap (λ x. Some x) same)) low high

  -- back in the caller's code, with what it had as the call left it
  module _ (v : Native) (value : Option ℕ) (d : Data) where
    abbrev with_it : Option Location → Data
    with_it target = with_result target value (restored caller d)

    gets_received : (target : Option Location) → TargetFits f.slots target → AllSaved f target → Agrees value (slice_index words 8)
        → Received (lowered p).functions None (code_of p f) f v wait.further wait.rest (gets (frame_of f) target) v.place words wait.held (with_it target)
    unfolding number_of
    gets_received None fits saved agrees = none (lowered p).functions None (code_of p f) f v wait.further wait.rest v.place words wait.held (restored caller d) wait.holds
    gets_received (Some target) fits saved agrees =
        puts_received (lowered p).functions None (code_of p f) f v wait.further wait.rest target Eax value v.place words wait.held (restored caller d) wait.holds fits saved agrees

    pub resumes : v.function ≡ wait.to.function → v.place ≡ wait.to.place → v.stack ≡ cells → v.registers ≡ words → v.globals ≡ d.globals → v.output ≡ d.output → Agrees value (slice_index words 8)
        → Arrives p (resumed value d caller callers) v
    resumes function place stands registers globals output agrees =
        let goes_on = wait.goes_on in
        let i = l.Call goes_on.callee goes_on.arguments caller.target in
        let b = gets (frame_of f) caller.target in
        let got = gets_received caller.target target_fits (target_saved caller.target refl) agrees in
        let saved = (frame_of f).saved in
        let count = length goes_on.arguments in
        let blk = passes (frame_of f) goes_on.arguments ++ Call goes_on.callee ∷ b in
        let is_here : v.function ≡ caller.function = function ∙ goes_on.function in
        let start = place ∙ goes_on.place in
        let u : Native = record v { place = v.place + length b; registers = got.words'; stack = laid got.held' wait.further wait.rest } in
        let here : Data = with_it caller.target in
        let same_start : v ≡ record v { registers = words; stack = laid wait.held wait.further wait.rest } = λ k. record v { registers = registers k; stack = (stands ∙ wait.stands) k } in
        let far : v.place + length b ≡ place_in p f goes_on.before + length blk = omega (arith, start, length-append (passes (frame_of f) goes_on.arguments) (Call goes_on.callee ∷ b)) in
        record {
          count = length b;
          to = u;
          go = walks_on (lowered p).functions None (lowered_function p wait.named) b v (lowered_there p wait.named v.function (ap (slice_get p.functions) is_here ∙ wait.there))
              (getting_stands p f goes_on.before goes_on.callee goes_on.arguments caller.target count v.place goes_on.takes refl goes_on.calls start) (all_straight b (below_gets (frame_of f) caller.target))
              ∙ ap (walks (lowered p).functions None (code_of p f) b) same_start ∙ got.walk;
          related = subst (λ ms. Related p (record { function = caller.function; place = caller.place; here = all_moved ms here; callers = callers }) u) (sym goes_on.moves) (record {
            named = wait.named;
            held = got.held';
            back = wait.further;
            under = wait.rest;
            there = wait.there;
            function = is_here;
            place = place_below p f goes_on.before caller.place (v.place + length b) i blk goes_on.calls goes_on.next
                (call_block p f goes_on.before goes_on.callee goes_on.arguments caller.target count goes_on.takes refl) far;
            globals = globals ∙ sym (result-globals caller.target value (restored caller d));
            output = output ∙ sym (result-output caller.target value (restored caller d));
            known = known_below f goes_on.before caller.place i here.registers v.flags got.words' goes_on.calls goes_on.next got.holds.eight
                (nothing_so here.registers v.flags got.words' got.holds.eight);
            holds = got.holds;
            stands = refl;
            callers = subst (λ ws. Wait p callers wait.further (put_back saved ws got.words') wait.rest) (sym got.saved)
                (callers_wait p callers wait.further saved wait.held.saved words got.words' wait.rest wait.holds.thirteen got.holds.thirteen wait.holds.full.saved got.kept wait.under);
          });
        }
