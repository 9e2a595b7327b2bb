-- The output of native code only grows.
use Rattle.std.proofs.Common.{◌≡◌, ℕ, zero, suc, Bool, true, false, List, [], ◌∷◌, length, Option, Some, None, refl, sym, subst}
use Rattle.std.specs.Prelude.{if◌then◌else◌, slice_get}
use Rattle.std.specs.Option.{option_map}
use Rattle.lang_base.specs.Behaviour.{IsBeginningOf}
use Rattle.lang_base.specs.Machine.{Next, Grows}
use Rattle.lang_base.specs.Machine as base
use Rattle.lang_base.specs.declared.program.Named.{Named}
use Rattle.lang_base.proofs.Beginnings.{IsBeginningOf-refl}
use Rattle.x86_syntax.specs.Labels.{place_of}
use Rattle.x86_syntax.specs.declared.function.Function.{Function}
use Rattle.x86_syntax.specs.declared.instruction.Instruction.{Instruction}
use Rattle.x86_syntax.specs.declared.instruction.Instruction.TheVariants.{Label, Skip, Copy, Set, Take, Keep, Do, DoWith, Turn, Shift, ShiftBy, Extend, Divide, DivideU, Compare, CompareWith, Flag, Jump, JumpIf, Stop, StopIf, Load, Store, LoadAt, StoreAt, Call, Return, Room, Grow, Shrink, Put}
use Rattle.x86_syntax.specs.declared.operators.Turning.TheVariants.{Neg, Not}
use Rattle.x86_state.specs.declared.cell.Cell.{Cell}
use Rattle.x86_state.specs.declared.cell.Cell.TheVariants.{Word, Back}
use Rattle.x86_state.specs.State.{State, Step, Goes, Ends, Stops, Fills, Stuck, goes_on, does}
use Rattle.x86.specs.Calling.{calls, returns}
use Rattle.x86.specs.Comparing.{asked}
use Rattle.x86.specs.Framing.{has_room, with_cell, with_cells}
use Rattle.x86.specs.Jumping.{jumps, takes_if}
use Rattle.x86.specs.Meaning.{instruction_step, function_step, next}
use Rattle.native_lowering_walks.specs.Seen.{seen, seen_next, output_of}

-- where the step goes on, the output was at most this
abbrev Grow' : Step → List ℕ → Type 0
Grow' (Goes t) before = IsBeginningOf before t.output
Grow' (Ends w) before = Unit {0}
Grow' Stops before = Unit {0}
Grow' Fills before = Unit {0}
Grow' Stuck before = Unit {0}

same : (before : List ℕ) → IsBeginningOf before before
same before = IsBeginningOf-refl before

maps : {A : Type 0} (f : A → State) (o : Option A) (before : List ℕ) → ((a : A) → (f a).output ≡ before) → Grow' (does (option_map f o)) before
maps f None before keeps = tt
maps f (Some a) before keeps = subst (IsBeginningOf before) (sym (keeps a)) (same before)

jumps_grow : (o : Option ℕ) (s : State) → Grow' (jumps o s) s.output
jumps_grow None s = tt
jumps_grow (Some place) s = same s.output

takes_grow : (o : Option Bool) (x : Step) (s : State) → Grow' x s.output → Grow' (takes_if o x s) s.output
takes_grow None x s grows = tt
takes_grow (Some true) x s grows = grows
takes_grow (Some false) x s grows = same s.output

calls_grow : (number : ℕ) (o : Option (Named Function)) (s : State) → Grow' (calls number o s) s.output
calls_grow number None s = tt
calls_grow number (Some named) s = same s.output

returns_grow : (cells : List Cell) (s : State) → Grow' (returns cells s) s.output
returns_grow [] s = tt
returns_grow (Word w ∷ cells) s = tt
returns_grow (Back None ∷ cells) s = tt
returns_grow (Back (Some to) ∷ cells) s = same s.output

room_grow : (b : Bool) (x : State) (before : List ℕ) → x.output ≡ before → Grow' (if b then goes_on x else Fills) before
room_grow true x before keeps = subst (IsBeginningOf before) (sym keeps) (same before)
room_grow false x before keeps = tt

cells_output : (n : ℕ) (s : State) → (with_cells n s).output ≡ s.output
cells_output zero s = refl
cells_output (suc n) s = cells_output n (with_cell s)

instruction_grows : (functions : List (Named Function)) (room : Option ℕ) (code : List Instruction) (s : State) (i : Instruction) → Grow' (instruction_step functions room code s (Some i)) s.output
instruction_grows functions room code s (Label label) = same s.output
instruction_grows functions room code s Skip = same s.output
instruction_grows functions room code s (Copy target source) = same s.output
instruction_grows functions room code s (Set target w) = same s.output
instruction_grows functions room code s (Take target cell) = maps _ _ s.output (λ w. refl)
instruction_grows functions room code s (Keep cell source) = maps _ _ s.output (λ cells. refl)
instruction_grows functions room code s (Do op target source) = same s.output
instruction_grows functions room code s (DoWith op target w) = same s.output
instruction_grows functions room code s (Turn Neg target) = same s.output
instruction_grows functions room code s (Turn Not target) = same s.output
instruction_grows functions room code s (Shift op target count) = maps _ _ s.output (λ w. refl)
instruction_grows functions room code s (ShiftBy op target) = maps _ _ s.output (λ w. refl)
instruction_grows functions room code s Extend = same s.output
instruction_grows functions room code s (Divide divisor) = maps _ _ s.output (λ p. refl)
instruction_grows functions room code s (DivideU divisor) = maps _ _ s.output (λ p. refl)
instruction_grows functions room code s (Compare left right) = same s.output
instruction_grows functions room code s (CompareWith left w) = same s.output
instruction_grows functions room code s (Flag condition target) = maps _ _ s.output (λ answer. refl)
instruction_grows functions room code s (Jump label) = jumps_grow (place_of label code) s
instruction_grows functions room code s (JumpIf condition label) = takes_grow (asked condition s) _ s (jumps_grow (place_of label code) s)
instruction_grows functions room code s Stop = tt
instruction_grows functions room code s (StopIf condition) = takes_grow (asked condition s) Stops s tt
instruction_grows functions room code s (Load target global index) = maps _ _ s.output (λ w. refl)
instruction_grows functions room code s (Store global index source) = maps _ _ s.output (λ cells. refl)
instruction_grows functions room code s (LoadAt target global cell) = maps _ _ s.output (λ w. refl)
instruction_grows functions room code s (StoreAt global cell source) = maps _ _ s.output (λ cells. refl)
instruction_grows functions room code s (Call function) = calls_grow function (slice_get functions function) s
instruction_grows functions room code s Return = returns_grow s.stack s
instruction_grows functions room code s Room = room_grow (has_room room (length s.stack)) _ s.output refl
instruction_grows functions room code s (Grow count) = subst (IsBeginningOf s.output) (sym (cells_output count s)) (same s.output)
instruction_grows functions room code s (Shrink count) = maps _ _ s.output (λ cells. refl)
instruction_grows functions room code s Put = (_, refl)

none_grows : (functions : List (Named Function)) (room : Option ℕ) (code : List Instruction) (s : State) (o : Option Instruction) → Grow' (instruction_step functions room code s o) s.output
none_grows functions room code s None = tt
none_grows functions room code s (Some i) = instruction_grows functions room code s i

function_grows : (functions : List (Named Function)) (room : Option ℕ) (s : State) (o : Option (Named Function)) → Grow' (function_step functions room s o) s.output
function_grows functions room s None = tt
function_grows functions room s (Some f) = none_grows functions room f.function.code s (slice_get f.function.code s.place)

goes_grown : (x : Step) (s t : State) → Grow' x s.output → seen x ≡ base.Goes t → IsBeginningOf s.output t.output
goes_grown (Goes u) s t grows e = let it : u ≡ t = cc in subst (λ (y : State). IsBeginningOf s.output y.output) it grows
goes_grown (Ends w) s t grows e = cc
goes_grown Stops s t grows e = cc
goes_grown Fills s t grows e = cc
goes_grown Stuck s t grows e = cc

pub grows : (functions : List (Named Function)) (room : Option ℕ) → Grows (seen_next functions room) output_of
unfolding next
grows functions room = record {
  step = λ s t e. goes_grown (next functions room s) s t (function_grows functions room s (slice_get functions s.function)) e;
}
