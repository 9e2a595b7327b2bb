-- A function begins: behind its opening native code stands for Linear at the first instruction.
use Rattle.std.proofs.Common.{◌≡◌, ℕ, ◌+◌, Bool, true, false, List, [], ◌∷◌, ◌++◌, length, Option, Some, None, refl, sym, subst, ◌∙◌, arith}
use Rattle.std.specs.Prelude.{if◌then◌else◌, slice_get}
use Rattle.std.specs.List.{list_any}
use Rattle.lang_base.specs.declared.program.Named.{Named}
use Rattle.lang_base.specs.declared.program.Program.{Program}
use Rattle.machine.proofs.Words.{entered-globals, entered-output}
use Rattle.machine.specs.Calls.{entered}
use Rattle.machine.specs.Data.{Data}
use Rattle.machine.specs.Frames.{State, Frame as Caller}
use Rattle.linear_language.specs.declared.instruction.Instruction.{Instruction}
use Rattle.linear_language.specs.declared.instruction.Instruction.TheVariants as l
use Rattle.linear_language.specs.Function.{FunctionData, IsFunction}
use Rattle.linear_language.specs.Meaning.{callee_of}
use Rattle.x86_state.specs.State.{State as Native}
use Rattle.x86_state.specs.declared.cell.Cell.{Cell}
use Rattle.x86_state.specs.declared.cell.Cell.TheVariants.{Back}
use Rattle.x86_state.specs.declared.cell.Spot.{Spot}
use Rattle.native_lowering_definition.specs.Blocks.{grows, saves, opening}
use Rattle.native_lowering_definition.specs.Facts.{no_facts}
use Rattle.native_lowering_definition.specs.Frames.{frame_of, size_of, saved_cell}
use Rattle.native_lowering_definition.specs.Layout.{facts_at}
use Rattle.native_lowering_definition.specs.Lowering.{names, known_at, code_of, lowered}
use Rattle.native_lowering_definition.specs.Moving.{receives}
use Rattle.native_lowering_layout.proofs.Joined.{get_left}
use Rattle.native_lowering_relation.specs.Knowing.{IsSo}
use Rattle.native_lowering_relation.specs.Standing.{laid, put_back}
use Rattle.native_lowering_relation.specs.Waiting.{Wait}
use Rattle.native_lowering_relation.proofs.Kept.{length-put_back}
use Rattle.native_lowering_relation.proofs.Knowing.{nothing_so}
use Rattle.native_lowering_relation.proofs.Waiting.{wait_kept}
use Rattle.native_lowering_walks.specs.Walks.{StandAt}
use Rattle.native_lowering_walks.proofs.Walking.{walks_on}
use Rattle.native_lowering_runs.specs.Reaching.{Reaches}
use Rattle.native_lowering_runs.proofs.Blocks.{all_straight, lowered_function, lowered_there}
use Rattle.native_lowering_calls.specs.Given.{Given}
use Rattle.native_lowering_calls.proofs.Framing.{opens}
use Rattle.native_lowering_calls.proofs.Straight.{below_opening}

-- nothing is known at the beginning
known_first : (code : List Instruction) (i : Instruction) → known_at code no_facts i ≡ no_facts
known_first code (l.Do act) = refl
known_first code (l.Copy step) = refl
known_first code (l.Call function arguments target) = refl
known_first code (l.Branch test label) = refl
known_first code (l.Return value) = refl
known_first code (l.Label label) = by (list_any (names label) code)
  where
    by : (b : Bool) → (if b then no_facts else no_facts) ≡ no_facts
    by true = refl
    by false = refl
known_first code (l.Goto label) = refl

first_facts : (code is : List Instruction) → facts_at code no_facts is 0 ≡ no_facts
first_facts code [] = refl
first_facts code (i ∷ is) = known_first code i

-- the opening stands at the beginning of the code
opening_stands : (p : Program FunctionData) (f : FunctionData) (place : ℕ) → place ≡ 0 → StandAt (opening (frame_of f) f.parameters) place (code_of p f)
opening_stands p f place start = λ j i inside.
    let same : j ≡ place + j = omega (arith, start) in
    subst (λ n. slice_get (code_of p f) n ≡ Some i) same (get_left (opening (frame_of f) f.parameters) _ j i inside)

module _ (p : Program FunctionData) (named : Named FunctionData) (u : Native) (back : Option Spot) (under : List Cell) (callers : List Caller) where
  -- Linear where the function begins
  abbrev pub beginning : List (Option ℕ) → Data → State
  beginning vs d = record { function = u.function; place = 0; here = entered (callee_of named) vs d; callers = callers }

  -- native code where it begins: these values are given, and the callers wait
  pub record Begins (vs : List (Option ℕ)) (d : Data) : Type 0 where
    pub there : slice_get p.functions u.function ≡ Some named
    pub place : u.place ≡ 0
    pub stands : u.stack ≡ Back back ∷ under
    pub thirteen : length u.registers ≡ 13
    pub globals : u.globals ≡ d.globals
    pub output : u.output ≡ d.output
    pub count : length vs ≡ length named.function.parameters
    pub given : Given vs u.registers under
    pub waiting : Wait p callers back u.registers under

  pub enters : (vs : List (Option ℕ)) (d : Data) → IsFunction named.function → Begins vs d → Reaches p None (beginning vs d) u
  enters vs d fits begins =
      let f = named.function in
      let opened = opens (lowered p).functions (code_of p f) f u back under vs d begins.place begins.stands begins.thirteen fits.parameters.each begins.count begins.given in
      let front = opening (frame_of f) f.parameters in
      let words = opened.words in
      let saved = (frame_of f).saved in
      record {
        more = length (grows (size_of (frame_of f)) ++ (saves (saved_cell (frame_of f)) (frame_of f).saved ++ receives (frame_of f) f.parameters));
        to = record u { place = length front; registers = words; flags = None; stack = laid opened.held back under; junk = opened.junk };
        go = walks_on (lowered p).functions None (lowered_function p named) front u (lowered_there p named u.function begins.there)
            (opening_stands p f u.place begins.place) (all_straight front (below_opening (frame_of f) f.parameters)) ∙ opened.walk;
        related = record {
          named = named;
          held = opened.held;
          back = back;
          under = under;
          there = begins.there;
          function = refl;
          place = omega arith;
          globals = begins.globals ∙ sym (entered-globals (callee_of named) vs d);
          output = begins.output ∙ sym (entered-output (callee_of named) vs d);
          known = subst (λ facts. IsSo facts (entered (callee_of named) vs d).registers None words) (sym (first_facts f.code f.code)) (nothing_so (entered (callee_of named) vs d).registers None words opened.holds.eight);
          holds = opened.holds;
          stands = refl;
          callers = wait_kept p callers back u.registers (put_back saved opened.held.saved words) under (length-put_back saved opened.held.saved words ∙ opened.holds.thirteen) opened.kept begins.waiting;
        };
      }
