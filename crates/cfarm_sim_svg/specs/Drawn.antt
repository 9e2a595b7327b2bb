-- A schedule that is drawn, or why it is not.
use Rattle.std.specs.Prelude.{◌≡◌, ℕ, List, Option, None}
use Rattle.std.specs.Io.KnownBytes.{Appends}
use Rattle.cfarm_output.specs.Begun.{IsBegun}
use Rattle.cfarm_sim.specs.Plays.{IsShown, StopsAt}
use Rattle.cfarm_sim.specs.declared.error.ScheduleError.{ScheduleError}
use Rattle.cfarm_sim.specs.declared.error.ScheduleError.TheVariants.{NoMemory, Schedule, Write}
use Rattle.cfarm_sim_svg_shapes.specs.Frame.{drawing}

-- the whole schedule was played, which is said where nothing is known of a writer, and its drawing printed
pub record IsDrawn (text : List ℕ) (before after : Option (List ℕ)) : Type 0 where
  pub shown : IsShown text None None
  pub output : Appends before after (drawing shown.quorums shown.commands shown.calls)

-- the whole schedule was played, and a beginning of its drawing printed
pub record IsPartlyDrawn (text : List ℕ) (before after : Option (List ℕ)) : Type 0 where
  pub shown : IsShown text None None
  pub output : IsBegun (drawing shown.quorums shown.commands shown.calls) before after

-- Why a schedule is not drawn: its first line that is none, or memory, and then nothing is printed; or the writer fails.
abbrev pub IsUndrawn : List ℕ → ScheduleError → Option (List ℕ) → Option (List ℕ) → Type 0
IsUndrawn text NoMemory before after = after ≡ before
IsUndrawn text (Schedule line) before after = StopsAt text line None None × (after ≡ before)
IsUndrawn text Write before after = IsPartlyDrawn text before after
