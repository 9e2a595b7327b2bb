-- What comes back, whatever else is told.
use Rattle.std.specs.Prelude.{Result, Ok, Err}

abbrev pub nodes_of : {A E : Type 0} → Result A (A × E) → A
nodes_of (Ok nodes) = nodes
nodes_of (Err told) = told.0
