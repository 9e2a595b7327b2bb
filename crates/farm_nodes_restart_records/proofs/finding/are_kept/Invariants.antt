use Rattle.std.proofs.Common.{◌↔◌, IsTrue}
use Rattle.farm_nodes_turn_passes.specs.Fours.{fours_of}
use Rattle.farm_nodes_restart_records.proofs.Keeping.{AreKeptTo}
use Rattle.farm_nodes_restart_records.proofs.finding.are_kept.Given as goal

-- whether the parts of the functions so far are what their seats keep
abbrev pub invariant-loop-function : goal.invariant-loop-function
invariant-loop-function g l = IsTrue l.all ↔ AreKeptTo l.parts (fours_of l.seats.items) l.function
