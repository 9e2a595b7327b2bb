-- What a run in memory stands for, whatever was printed.
use Rattle.std.specs.Prelude.{◌≡◌, ℕ, List, [], map, replicate, Option, None}
use Rattle.locations.specs.declared.location.Location.{Location}
use Rattle.locations.specs.declared.location.Move.{Move}
use Rattle.machine.specs.Data.{Data, value_at, put_at, moved}
use Rattle.machine.specs.Frames.{Frame, State}
use Rattle.linear_faults_run.specs.declared.callers.Caller.{Caller}
use Rattle.linear_faults_run.specs.declared.run.Run.{Run}
use Rattle.linear_faults_run.specs.declared.words.Words.{Words}

-- the words of a function, with these globals, where this was printed
abbrev pub data_of : Words → List (List ℕ) → List ℕ → Data
data_of w globals output = record { registers = w.registers.items; slots = w.slots.items; globals = globals; output = output }

-- no moves wait, since each stands in the code
abbrev pub frame_of : Caller → Frame
frame_of c = record {
  function = c.function;
  place = c.place;
  registers = c.words.registers.items;
  slots = c.words.slots.items;
  target = c.target;
  moves = [];
}

abbrev pub state_of : Run → List ℕ → State
state_of r output = record {
  function = r.function;
  place = r.place;
  here = data_of r.words r.globals.items output;
  callers = map frame_of r.callers;
}

-- ---- words, whatever the globals are

abbrev pub Holds : Words → Location → Option ℕ → Type 0
Holds w l value = (globals : List (List ℕ)) (output : List ℕ) → value ≡ value_at l (data_of w globals output)

abbrev pub Puts : Words → Location → Option ℕ → Words → Type 0
Puts before l value after = (globals : List (List ℕ)) (output : List ℕ) → put_at l value (data_of before globals output) ≡ data_of after globals output

abbrev pub Moves : Words → Move → Words → Type 0
Moves before m after = (globals : List (List ℕ)) (output : List ℕ) → moved m (data_of before globals output) ≡ data_of after globals output

-- nothing is defined in a function that begins
pub record AreFresh (count : ℕ) (w : Words) : Type 0 where
  pub registers : w.registers.items ≡ replicate 8 None
  pub slots : w.slots.items ≡ replicate count None
