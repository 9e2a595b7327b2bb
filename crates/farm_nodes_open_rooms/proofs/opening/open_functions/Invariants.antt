use Rattle.std.proofs.Common.{◌≡◌, length}
use Rattle.farm_nodes_open_lists.specs.Rows.{rows_of}
use Rattle.farm_nodes_open_rooms.proofs.Rooms.{AllLeft, AreOpen}
use Rattle.farm_nodes_open_rooms.proofs.opening.open_functions.Given as goal

-- the rooms of the functions so far are open, and the offers for the others are as they were given
abbrev pub invariant-loop-function : goal.invariant-loop-function
invariant-loop-function g l = record {
  count : length l.nodes.items ≡ length l.kept;
  opened : AreOpen l.quorums l.kept l.function l.fn.offers (rows_of l.nodes.items);
  left : AllLeft l.function l.fn.offers l.left;
}
