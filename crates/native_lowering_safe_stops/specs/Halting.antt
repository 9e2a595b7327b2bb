-- Runs of native code that are over after so many steps.
use Rattle.std.specs.Prelude.{◌≡◌, ℕ, ◌<◌, List, Some, None, slice_index}
use Rattle.lang_base.specs.declared.program.Named.{Named}
use Rattle.locations.specs.declared.location.Location.TheVariants.{InRegister}
use Rattle.machine.specs.Data.{Data, value_at}
use Rattle.x86_syntax.specs.declared.function.Function.{Function}
use Rattle.x86_state.specs.State.{State, Step, Goes, Ends, Stops, Fills, Stuck}
use Rattle.native_lowering_walks.specs.Walks.{steps}

-- it has stopped, or ended with a word
abbrev pub IsOver : Step → Type 0
IsOver (Goes s) = ⊥
IsOver (Ends w) = Unit {0}
IsOver Stops = Unit {0}
IsOver Fills = ⊥
IsOver Stuck = ⊥

-- after so many steps
pub record Halts (functions : List (Named Function)) (s : State) : Type 0 where
  pub count : ℕ
  pub last : Step
  pub go : steps functions None count s ≡ last
  pub over : IsOver last

-- each register of Linear is defined: it has the word of its native register
abbrev pub AreDefined : Data → List ℕ → Type 0
AreDefined d words = (r : ℕ) → r < 8 → value_at (InRegister r) d ≡ Some (slice_index words r)
