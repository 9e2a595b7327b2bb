-- Jumps and stops: they change no flags (Intel 64 and IA-32 Software Developer's Manual, volume 2: JMP, Jcc).
use Rattle.std.specs.Prelude.{ℕ, Bool, Option, Some, None, if◌then◌else◌}
use Rattle.x86_state.specs.State.{State, Step, Goes, Stuck, goes_on}

-- goes on at a place; where there is none, since the label is missing, nothing is defined
abbrev pub jumps : Option ℕ → State → Step
jumps None s = Stuck
jumps (Some place) s = Goes (record s { place = place })

-- takes this step where the answer is yes, else goes on below
abbrev pub takes_if : Option Bool → Step → State → Step
takes_if None step s = Stuck
takes_if (Some answer) step s = if answer then step else goes_on s
