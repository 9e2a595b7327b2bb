-- Calls and returns (Intel 64 and IA-32 Software Developer's Manual, volume 2: CALL, RET).
use Rattle.std.specs.Prelude.{ℕ, ◌+◌, List, [], ◌∷◌, Option, Some, None}
use Rattle.lang_base.specs.declared.program.Named.{Named}
use Rattle.x86_syntax.specs.declared.function.Function.{Function}
use Rattle.x86_syntax.specs.declared.register.Register.TheVariants.{Eax}
use Rattle.x86_state.specs.declared.cell.Cell.{Cell}
use Rattle.x86_state.specs.declared.cell.Cell.TheVariants.{Word, Back}
use Rattle.x86_state.specs.declared.cell.Spot.{Spot}
use Rattle.x86_state.specs.State.{State, Step, Goes, Ends, Stuck, word}

-- the instruction below
abbrev pub below : State → Spot
below s = record { function = s.function; place = s.place + 1 }

-- the function of this number begins, to go back below the call; where it is missing nothing is defined
abbrev pub calls : ℕ → Option (Named Function) → State → Step
calls number None s = Stuck
calls number (Some named) s = Goes (record s { function = number; place = 0; flags = None; stack = Back (Some (below s)) ∷ s.stack })

-- goes back to where the cell on top says, with these cells below it; the function that the run began with ends with eax
abbrev pub returns : List Cell → State → Step
returns [] s = Stuck
returns (Word w ∷ cells) s = Stuck
returns (Back None ∷ cells) s = Ends (word Eax s)
returns (Back (Some to) ∷ cells) s = Goes (record s { function = to.function; place = to.place; flags = None; stack = cells })
