-- Where the run of a program of Linear goes wrong: at the first state from which the step has no answer (Leroy 2009, section 3.2: a run that is stuck).
use Rattle.std.specs.Prelude.{◌≡◌, ℕ, zero, suc, ◌-◌, Bool, true, false, List, map, Option, None, Some, is_some}
use Rattle.lang_base.specs.Machine.{Next, Goes, Ends, Fails}
use Rattle.lang_base.specs.declared.program.Named.{Named}
use Rattle.lang_base.specs.declared.program.Program.{Program}
use Rattle.lang_base.specs.declared.shown.Shown.{Shown}
use Rattle.lang_base.specs.declared.shown.Shown.TheVariants.{Running, Ended, Wrong}
use Rattle.machine.specs.Frames.{Frame, State}
use Rattle.linear_language.specs.Function.{FunctionData}
use Rattle.linear_language.specs.Meaning.{next, start, run}
use Rattle.linear_faults.specs.declared.fault.Fault.{Fault}
use Rattle.linear_faults.specs.declared.fault.Site.{Site}
use Rattle.linear_faults.specs.Causes.{cause_of}

-- a call that is under way: its caller waits at the place behind it
abbrev pub site_of : Frame → Site
site_of f = record { function = f.function; place = f.place - 1 }

-- the fault of a state whose step has no answer: its place, why, and the calls, the innermost first
abbrev pub fault_at : List (Named FunctionData) → State → Fault
fault_at functions s = record {
  at = record { function = s.function; place = s.place };
  cause = cause_of functions s;
  calls = map site_of s.callers;
}

-- by what follows a state
abbrev pub found_by : Next State → Fault → (State → Option Fault) → Option Fault
found_by (Goes t) here later = later t
found_by (Ends result) here later = None
found_by Fails here later = Some here

-- the first fault in so many steps from a state
abbrev pub fault_from : List (Named FunctionData) → ℕ → State → Option Fault
fault_from functions zero s = None
fault_from functions (suc n) s = found_by (next functions s) (fault_at functions s) (fault_from functions n)

-- the fault of a program's run of so many instructions: none where it does not go wrong
abbrev pub fault_of : Program FunctionData → ℕ → Option Fault
fault_of p limit = fault_from p.functions limit (start p)

abbrev pub is_wrong : Shown → Bool
is_wrong Running = false
is_wrong (Ended result) = false
is_wrong Wrong = true

-- A run has a fault exactly where it is wrong.
abbrev pub HasFaultWhereWrong : Type 0
HasFaultWhereWrong = (p : Program FunctionData) (limit : ℕ) → is_some (fault_of p limit) ≡ is_wrong (run p limit).shown
