-- What programs of native code do, one instruction a step.
use Rattle.std.specs.Prelude.{ℕ, zero, suc, ◌==◌, List, [], ◌∷◌, Option, Some, None, Bool, slice_get, replicate, map}
use Rattle.std.specs.Option.{option_map}
use Rattle.lang_base.specs.Behaviour.{Behaviour}
use Rattle.lang_base.specs.declared.program.Global.{Global}
use Rattle.lang_base.specs.declared.program.Named.{Named}
use Rattle.lang_base.specs.declared.program.Program.{Program}
use Rattle.lang_running_cells.specs.Frames.{cells_of, main_number}
use Rattle.x86_syntax.specs.Labels.{place_of}
use Rattle.x86_syntax.specs.declared.function.Function.{Function}
use Rattle.x86_syntax.specs.declared.instruction.Instruction.{Instruction}
use Rattle.x86_syntax.specs.declared.instruction.Instruction.TheVariants.{Label, Skip, Copy, Set, Take, Keep, Do, DoWith, Turn, Shift, ShiftBy, Extend, Divide, DivideU, Compare, CompareWith, Flag, Jump, JumpIf, Stop, StopIf, Load, Store, LoadAt, StoreAt, Call, Return, Room, Grow, Shrink, Put}
use Rattle.x86_syntax.specs.declared.register.Register.TheVariants.{Eax, Ecx}
use Rattle.x86_state.specs.declared.cell.Cell.TheVariants.{Back}
use Rattle.x86_state.specs.declared.shown.Shown.TheVariants.{Running, Wrong}
use Rattle.x86_state.specs.State.{State, Step, Stops, Stuck, word, put, goes_on, does}
use Rattle.x86_state.specs.Shows.{Shows, shows, behaviour_of}
use Rattle.x86.specs.Moves.{copied, taken, kept_from}
use Rattle.x86.specs.Operating.{done, turned_round, shifted_by, extended, divided_by, divided_unsigned_by}
use Rattle.x86.specs.Comparing.{compared, asked, flagged}
use Rattle.x86.specs.Jumping.{jumps, takes_if}
use Rattle.x86.specs.Reaching.{loaded, stored}
use Rattle.x86.specs.Framing.{goes_if_room, grown, shrunk_by}
use Rattle.x86.specs.Calling.{calls, returns}
use Rattle.x86.specs.Printing.{scrambled, all_scrambled, printed}

-- an instruction of this code, in a program of these functions, where the stack may have a bound
abbrev pub instruction_step : List (Named Function) → Option ℕ → List Instruction → State → Option Instruction → Step
instruction_step functions room code s None = Stuck
instruction_step functions room code s (Some (Label label)) = goes_on s
instruction_step functions room code s (Some Skip) = goes_on s
instruction_step functions room code s (Some (Copy target source)) = goes_on (copied target source s)
instruction_step functions room code s (Some (Set target w)) = goes_on (put target w s)
instruction_step functions room code s (Some (Take target cell)) = does (taken target cell s)
instruction_step functions room code s (Some (Keep cell source)) = does (kept_from cell source s)
instruction_step functions room code s (Some (Do op target source)) = goes_on (done op target (word source s) s)
instruction_step functions room code s (Some (DoWith op target w)) = goes_on (done op target w s)
instruction_step functions room code s (Some (Turn op target)) = goes_on (turned_round op target s)
instruction_step functions room code s (Some (Shift op target count)) = does (shifted_by op target count s)
instruction_step functions room code s (Some (ShiftBy op target)) = does (shifted_by op target (word Ecx s) s)
instruction_step functions room code s (Some Extend) = goes_on (extended s)
instruction_step functions room code s (Some (Divide divisor)) = does (divided_by divisor s)
instruction_step functions room code s (Some (DivideU divisor)) = does (divided_unsigned_by divisor s)
instruction_step functions room code s (Some (Compare left right)) = goes_on (compared (word left s) (word right s) s)
instruction_step functions room code s (Some (CompareWith left w)) = goes_on (compared (word left s) w s)
instruction_step functions room code s (Some (Flag condition target)) = does (flagged condition target s)
instruction_step functions room code s (Some (Jump label)) = jumps (place_of label code) s
instruction_step functions room code s (Some (JumpIf condition label)) = takes_if (asked condition s) (jumps (place_of label code) s) s
instruction_step functions room code s (Some Stop) = Stops
instruction_step functions room code s (Some (StopIf condition)) = takes_if (asked condition s) Stops s
instruction_step functions room code s (Some (Load target global index)) = does (loaded target global (word index s) s)
instruction_step functions room code s (Some (Store global index source)) = does (stored global (word index s) source s)
instruction_step functions room code s (Some (LoadAt target global cell)) = does (loaded target global cell s)
instruction_step functions room code s (Some (StoreAt global cell source)) = does (stored global cell source s)
instruction_step functions room code s (Some (Call function)) = calls function (slice_get functions function) s
instruction_step functions room code s (Some Return) = returns s.stack s
instruction_step functions room code s (Some Room) = goes_if_room room s
instruction_step functions room code s (Some (Grow count)) = goes_on (grown count s)
instruction_step functions room code s (Some (Shrink count)) = does (shrunk_by count s)
instruction_step functions room code s (Some Put) = goes_on (printed s)

abbrev pub performs : List (Named Function) → Option ℕ → List Instruction → Instruction → State → Step
performs functions room code instruction s = instruction_step functions room code s (Some instruction)

abbrev pub function_step : List (Named Function) → Option ℕ → State → Option (Named Function) → Step
function_step functions room s None = Stuck
function_step functions room s (Some f) = instruction_step functions room f.function.code s (slice_get f.function.code s.place)

-- one step of a program
unfoldable pub next : List (Named Function) → Option ℕ → State → Step
next functions room s = function_step functions room s (slice_get functions s.function)

abbrev pub takes_none : Function → Bool
takes_none f = f.parameters == 0

-- all registers are 0, nothing was compared, and below the function there is nothing to go back to
abbrev pub blank : List Global → (ℕ → ℕ) → ℕ → State
blank globals junk number = record {
  function = number;
  place = 0;
  registers = replicate 13 0;
  flags = None;
  stack = Back None ∷ [];
  globals = map cells_of globals;
  output = [];
  junk = junk;
}

-- the function of this number begins: the scratch registers hold whatever they may
abbrev pub begins : List Global → (ℕ → ℕ) → ℕ → State
begins globals junk number = all_scrambled (scrambled Eax (blank globals junk number))

-- where the run of a program begins: main's first instruction, if there is a main
abbrev pub start : Program Function → (ℕ → ℕ) → Option State
start p junk =
    let number = main_number takes_none p.functions in
    option_map (λ (main : Named Function). begins p.globals junk number) (slice_get p.functions number)

-- a program without main stops at once
abbrev pub stops_at_once : ℕ → Shows
stops_at_once zero = record { shown = Running; output = [] }
stops_at_once (suc n) = record { shown = Wrong; output = [] }

abbrev pub shows_from : List (Named Function) → Option ℕ → ℕ → Option State → Shows
shows_from functions room n None = stops_at_once n
shows_from functions room n (Some s) = shows (next functions room) n s

-- what the run of a program shows after so many instructions, with this stream of words for what is left open, where the stack may have
-- a bound
abbrev pub native : Program Function → (ℕ → ℕ) → Option ℕ → ℕ → Shows
native p junk room n = shows_from p.functions room n (start p junk)

-- the same, in the terms of the other languages
abbrev pub run : Program Function → (ℕ → ℕ) → Option ℕ → Behaviour
run p junk room = behaviour_of (native p junk room)
