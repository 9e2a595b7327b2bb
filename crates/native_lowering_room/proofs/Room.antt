-- With a bound on the stack each step is as without one, or finds the stack full.
use Rattle.std.proofs.Common.{◌≡◌, ◌⊎◌, ℕ, zero, suc, Bool, true, false, List, length, Option, Some, None, refl, sym, subst, arith, inl, inr}
use Rattle.std.specs.Prelude.{slice_get, if◌then◌else◌}
use Rattle.lang_base.specs.Behaviour.{IsBeginningOf}
use Rattle.lang_base.specs.Behaviour as base
use Rattle.lang_base.specs.Machine as machine
use Rattle.lang_base.proofs.Beginnings.{output_grows_to}
use Rattle.lang_base.proofs.Simulation.{shows_is_run}
use Rattle.lang_base.specs.declared.program.Named.{Named}
use Rattle.lang_base.specs.declared.program.Program.{Program}
use Rattle.x86_syntax.specs.declared.function.Function.{Function}
use Rattle.x86_syntax.specs.declared.instruction.Instruction.{Instruction}
use Rattle.x86_syntax.specs.declared.instruction.Instruction.TheVariants.{Label, Skip, Copy, Set, Take, Keep, Do, DoWith, Turn, Shift, ShiftBy, Extend, Divide, DivideU, Compare, CompareWith, Flag, Jump, JumpIf, Stop, StopIf, Load, Store, LoadAt, StoreAt, Call, Return, Room, Grow, Shrink, Put}
use Rattle.x86_state.specs.Shows.{Shows, showing, shows}
use Rattle.x86_state.specs.State.{State, Step, Goes, Ends, Stops, Fills, Stuck, goes_on, with_flags}
use Rattle.x86.specs.Framing.{has_room}
use Rattle.x86.specs.Meaning.{instruction_step, function_step, next, shows_from, start}
use Rattle.native_lowering_walks.specs.Seen.{seen_next, output_of}
use Rattle.native_lowering_walks.proofs.Growing.{grows}
use Rattle.native_lowering_walks.proofs.Seen.{shows_seen}
use Rattle.native_lowering_room.specs.Room.{SameOrFull, KeepsInRoom}

-- the second step, or full
abbrev SameStep : Step → Step → Type 0
SameStep x y = (x ≡ y) ⊎ (x ≡ Fills)

room_step : (b : Bool) (s : State) → SameStep (if b then goes_on s else Fills) (goes_on s)
room_step true s = inl refl
room_step false s = inr refl

module _ (functions : List (Named Function)) (room : Option ℕ) where
  instruction_same : (code : List Instruction) (s : State) (i : Instruction) → SameStep (instruction_step functions room code s (Some i)) (instruction_step functions None code s (Some i))
  instruction_same code s (Label label) = inl refl
  instruction_same code s Skip = inl refl
  instruction_same code s (Copy target source) = inl refl
  instruction_same code s (Set target w) = inl refl
  instruction_same code s (Take target cell) = inl refl
  instruction_same code s (Keep cell source) = inl refl
  instruction_same code s (Do op target source) = inl refl
  instruction_same code s (DoWith op target w) = inl refl
  instruction_same code s (Turn op target) = inl refl
  instruction_same code s (Shift op target count) = inl refl
  instruction_same code s (ShiftBy op target) = inl refl
  instruction_same code s Extend = inl refl
  instruction_same code s (Divide divisor) = inl refl
  instruction_same code s (DivideU divisor) = inl refl
  instruction_same code s (Compare left right) = inl refl
  instruction_same code s (CompareWith left w) = inl refl
  instruction_same code s (Flag condition target) = inl refl
  instruction_same code s (Jump label) = inl refl
  instruction_same code s (JumpIf condition label) = inl refl
  instruction_same code s Stop = inl refl
  instruction_same code s (StopIf condition) = inl refl
  instruction_same code s (Load target global index) = inl refl
  instruction_same code s (Store global index source) = inl refl
  instruction_same code s (LoadAt target global cell) = inl refl
  instruction_same code s (StoreAt global cell source) = inl refl
  instruction_same code s (Call function) = inl refl
  instruction_same code s Return = inl refl
  instruction_same code s Room = room_step (has_room room (length s.stack)) (with_flags None s)
  instruction_same code s (Grow count) = inl refl
  instruction_same code s (Shrink count) = inl refl
  instruction_same code s Put = inl refl

  at_same : (code : List Instruction) (s : State) (o : Option Instruction) → SameStep (instruction_step functions room code s o) (instruction_step functions None code s o)
  at_same code s None = inl refl
  at_same code s (Some i) = instruction_same code s i

  function_same : (s : State) (o : Option (Named Function)) → SameStep (function_step functions room s o) (function_step functions None s o)
  function_same s None = inl refl
  function_same s (Some f) = at_same f.function.code s (slice_get f.function.code s.place)

  step_same : (s : State) → SameStep (next functions room s) (next functions None s)
  unfolding next
  step_same s = function_same s (slice_get functions s.function)

  -- what was printed is a beginning of what is
  printed_more : (n : ℕ) (s : State) → IsBeginningOf s.output (shows (next functions None) n s).output
  printed_more n s =
      subst (λ (x : base.Shows). IsBeginningOf s.output x.output) (sym (shows_seen functions None n s))
      (output_grows_to (λ m. machine.shows (seen_next functions None) output_of m s) (shows_is_run (seen_next functions None) output_of (grows functions None) s) 0 n (omega arith))

  shown_on : (x : Step) (n : ℕ) (out : List ℕ) → ((u : State) → SameOrFull (shows (next functions room) n u) (shows (next functions None) n u))
      → SameOrFull (showing x (shows (next functions room) n) out) (showing x (shows (next functions None) n) out)
  shown_on (Goes u) n out later = later u
  shown_on (Ends w) n out later = inl refl
  shown_on Stops n out later = inl refl
  shown_on Fills n out later = inl refl
  shown_on Stuck n out later = inl refl

  shown : (n : ℕ) (s : State) → SameOrFull (shows (next functions room) n s) (shows (next functions None) n s)
  shown zero s = inl refl
  shown (suc n) s = by (shown n) (step_same s)
    where
      by : ((u : State) → SameOrFull (shows (next functions room) n u) (shows (next functions None) n u)) → SameStep (next functions room s) (next functions None s)
          → SameOrFull (shows (next functions room) (suc n) s) (shows (next functions None) (suc n) s)
      by later (inl e) =
          subst (λ x. SameOrFull (showing x (shows (next functions room) n) s.output) (shows (next functions None) (suc n) s)) (sym e)
          (shown_on (next functions None s) n s.output later)
      by later (inr e) =
          subst (λ x. SameOrFull (showing x (shows (next functions room) n) s.output) (shows (next functions None) (suc n) s)) (sym e)
          (inr (record { shown = refl; output = printed_more (suc n) s }))

  shown_from : (n : ℕ) (o : Option State) → SameOrFull (shows_from functions room n o) (shows_from functions None n o)
  shown_from n None = inl refl
  shown_from n (Some s) = shown n s

pub keeps_in_room : (p : Program Function) → KeepsInRoom p
keeps_in_room p = λ junk room n. shown_from p.functions room n (start p junk)
