use Rattle.std.proofs.Common.{◌↔◌, IsTrue}
use Rattle.farm_nodes_turn_passes.specs.Fours.{fours_of}
use Rattle.farm_nodes_turn_passes.specs.Texts.{pass_texts}
use Rattle.farm_nodes_restart_records.specs.Told.{AreToldTo}
use Rattle.farm_nodes_restart_records.proofs.telling.are_told.Given as goal

-- whether the records so far have the texts of the node's own offers
abbrev pub invariant-loop-place : goal.invariant-loop-place
invariant-loop-place g l = IsTrue l.all ↔ AreToldTo pass_texts (fours_of l.seats.items) l.records l.place
