use Rattle.std.proofs.Common.{◌≡◌, length}
use Rattle.farm_nodes_restart_records.specs.Fours.{fours_of}
use Rattle.farm_nodes_restart_node.specs.Returned.{HaveForgotten}
use Rattle.farm_nodes_restart_seat.proofs.Places.{UpTo}
use Rattle.farm_nodes_restart_node.proofs.returning.forget_all.Given as goal

-- the seats of the functions so far have forgotten, and the others are as they were
abbrev pub invariant-loop-function : goal.invariant-loop-function
invariant-loop-function g l = record {
  count : length l.seats.items ≡ length l.fn.seats.items;
  forgot : UpTo HaveForgotten l.function (fours_of l.fn.seats.items) (fours_of l.seats.items);
}
