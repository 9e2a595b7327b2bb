use Rattle.std.proofs.Common.{◌≡◌, ◌++◌, drop}
use Rattle.farm_nodes_open_lists.specs.Rows.{offers_of, rows_of, AreForOthers}
use Rattle.farm_nodes_open_lists.proofs.taking.take_each.Given as goal

-- the offers of the lists in front are taken, and those of the others are still there
abbrev pub invariant-loop-list : goal.invariant-loop-list
invariant-loop-list g l = record {
  whole : l.offers.items ++ offers_of (rows_of (drop l.list-index l.list-items)) l.function ≡ offers_of (rows_of l.fn.lists.items) l.function;
  others : AreForOthers l.function (rows_of l.fn.lists.items) (rows_of l.list-items);
}
