-- Native code as a machine like those of the other languages: what is full or stuck fails there.
use Rattle.std.specs.Prelude.{ℕ, List, Option}
use Rattle.lang_base.specs.Behaviour.{Shows as BaseShows}
use Rattle.lang_base.specs.Machine.{Next}
use Rattle.lang_base.specs.Machine as base
use Rattle.lang_base.specs.declared.program.Named.{Named}
use Rattle.x86_syntax.specs.declared.function.Function.{Function}
use Rattle.x86_state.specs.Shows.{Shows, shown_as}
use Rattle.x86_state.specs.State.{State, Step, Goes, Ends, Stops, Fills, Stuck}
use Rattle.x86.specs.Meaning.{next}

abbrev pub seen : Step → Next State
seen (Goes s) = base.Goes s
seen (Ends w) = base.Ends w
seen Stops = base.Fails
seen Fills = base.Fails
seen Stuck = base.Fails

abbrev pub seen_next : List (Named Function) → Option ℕ → State → Next State
seen_next functions room s = seen (next functions room s)

abbrev pub output_of : State → List ℕ
output_of s = s.output

abbrev pub as_shows : Shows → BaseShows
as_shows x = record { shown = shown_as x.shown; output = x.output }
